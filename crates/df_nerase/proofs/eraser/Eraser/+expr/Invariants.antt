use Rattle.std.proofs.Common.{◌≡◌, take, map}
use Rattle.df_nplain.specs.ExprView as plain
use Rattle.df_nerase.specs.Views.{addend_of, factor_of, member_of, link_of}
use Rattle.df_nerase.specs.Eraser.{program_in}
use Rattle.df_nerase.proofs.Erased.{erase_addend, erase_factor, erase_member, erase_link}
use Rattle.df_nerase.proofs.eraser.Eraser.+expr.Given as goal

abbrev pub invariant-addends-loop-addend : goal.invariant-addends-loop-addend
invariant-addends-loop-addend l = map plain.addend_of l.erased.items ≡ map (erase_addend (program_in l.self)) (map addend_of (take l.addend-index l.rest.items))

abbrev pub invariant-factors-loop-factor : goal.invariant-factors-loop-factor
invariant-factors-loop-factor l = map plain.factor_of l.erased.items ≡ map (erase_factor (program_in l.self)) (map factor_of (take l.factor-index l.rest.items))

abbrev pub invariant-members-loop-member : goal.invariant-members-loop-member
invariant-members-loop-member l = map plain.expr_of l.erased.items ≡ map (erase_member (program_in l.self)) (map member_of (take l.member-index l.rest.items))

abbrev pub invariant-links-loop-link : goal.invariant-links-loop-link
invariant-links-loop-link l = map plain.link_of l.erased.items ≡ map (erase_link (program_in l.self)) (map link_of (take l.link-index l.rest.items))
