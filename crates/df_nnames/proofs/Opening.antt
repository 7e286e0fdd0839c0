-- An `if` of the code, as definitions see it.
use Rattle.std.proofs.Common.{◌≡◌, Vec, Global, map, Option, Some, None, ap, sym, ◌∙◌}
use Rattle.std.specs.Prelude.{option_map}
use Rattle.df_ntree.specs.File.{Statement, If, Block, Branch, branch_of, branches_of, block_of, otherwise_of, statement_of, statement_step, block_step, branch_step}
use Rattle.df_ntree.specs.declared.file.Block as declared_block
use Rattle.df_ntree.specs.declared.file.Branch as declared_branch
use Rattle.df_ntree.specs.declared.file.Statement.TheVariants as declared
use Rattle.df_ntree.specs.declared.file.Statement.TheOpen.{Statement-F}
use Rattle.df_ntree.specs.declared.file.Statement.TheFolds.{fold-roll-Statement}

pub statement_if : (first : declared_branch.Branch) (others : Vec declared_branch.Branch Global) (last : Option declared_block.Block)
    → statement_of (declared.If first others last) ≡ If (branch_of first).pos (branch_of first).guard (branch_of first).body.pos (branch_of first).body.statements (branches_of (map branch_of others.items)) (otherwise_of (option_map block_of last))
statement_if first others None = ap statement_of (sym (declared.rolls-If first others None)) ∙ fold-roll-Statement Statement Block Branch statement_step block_step branch_step (Statement-F.If first others None)
statement_if first others (Some block) =
    ap statement_of (sym (declared.rolls-If first others (Some block))) ∙ fold-roll-Statement Statement Block Branch statement_step block_step branch_step (Statement-F.If first others (Some block))
