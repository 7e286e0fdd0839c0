use Rattle.df_closure.proofs.NumberAtoms.{rows_agree}
use Rattle.df_closure.proofs.law.rows_hold_by_atoms.Goals as goal

pub returns : goal.returns
returns c = λ nodes literals rows x y table found alike. rows_agree nodes (record { sorted = table.sorted }) x y alike literals rows found
