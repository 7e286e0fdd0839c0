use Rattle.df_nenc.proofs.Words.{tree_at, Numbers}
use Rattle.df_nenc.proofs.Lemmas.{owing_factor, term_stays, is_term, multiplied_is, grows_then, path_stays, extends_then, extends_nodes}
use Rattle.df_nenc.proofs.step.with_factor.Goals as goal

pub owe_divisor-requires : goal.owe_divisor-requires
owe_divisor-requires c = record { path = path_stays _ _ c.args.path c.multiplied.ensures.grows c.requires.path; number = term_stays Numbers c.args.nodes.now c.multiplied.new.nodes c.args.operand c.multiplied.ensures.grows c.requires.operand }

pub owe_range-requires : goal.owe_range-requires
owe_range-requires c = record { path = path_stays _ _ c.args.path (grows_then _ _ _ c.multiplied.ensures.grows c.owe_divisor.ensures.extends.grows) c.requires.path; number = term_stays Numbers c.multiplied.new.nodes c.owe_divisor.new.nodes c.in_ok-product.product c.owe_divisor.ensures.extends.grows (is_term _ Numbers _ _ c.in_ok-product.ensures.stands (multiplied_is c.args.operator _ _)) }

pub returns : goal.returns
returns c = record { gives = owing_factor c.args.nodes.now c.multiplied.new.nodes c.owe_divisor.new.nodes c.owe_range.new.nodes c.args.path c.args.ty c.args.operator c.args.pos (tree_at c.args.nodes.now c.args.product) c.args.operand c.in_ok-product.product c.args.out.now.items c.owe_divisor.new.out.items c.owe_range.new.out.items c.multiplied.ensures.grows c.requires.path c.requires.operand c.in_ok-product.ensures.stands c.owe_divisor.ensures.extends.grows c.in_ok-owe_divisor.ensures.adds c.owe_range.ensures.extends.grows c.in_ok-owe_range.ensures.adds; extends = extends_then (extends_then (extends_nodes c.args.nodes.now c.multiplied.new.nodes c.args.out.now.items c.multiplied.ensures.grows) c.owe_divisor.ensures.extends) c.owe_range.ensures.extends }

pub returns-in_err-owe_divisor-clause-extends : goal.returns-in_err-owe_divisor-clause-extends
returns-in_err-owe_divisor-clause-extends c = extends_then (extends_nodes c.args.nodes.now c.multiplied.new.nodes c.args.out.now.items c.multiplied.ensures.grows) c.owe_divisor.ensures.extends

pub returns-in_err-owe_range-clause-extends : goal.returns-in_err-owe_range-clause-extends
returns-in_err-owe_range-clause-extends c = extends_then (extends_then (extends_nodes c.args.nodes.now c.multiplied.new.nodes c.args.out.now.items c.multiplied.ensures.grows) c.owe_divisor.ensures.extends) c.owe_range.ensures.extends
