use Rattle.std.proofs.Common.{refl}
use Rattle.df_typing.specs.Form.{form_of, forms}
use Rattle.df_typing.proofs.cases.Goals as goal

pub returns : goal.returns
unfolding form_of forms
returns c = record {
  parameter_told = refl;
  leak_told = refl;
  nested_told = refl;
  again_told = refl;
  given_told = refl;
  negated_told = refl;
  branches_told = refl;
  late_told = refl;
  never_told = refl;
  used_told = refl;
  ends_told = refl;
  lemmacall_told = refl;
  funstmt_told = refl;
  calc_told = refl;
  witness_binds_told = refl;
  witness_sees_told = refl;
  returned_told = refl;
  returned_ghost = refl;
  good_told = refl;
  inner_let_told = refl;
  calls_told = refl;
  mixed_told = refl;
  loops_told = refl;
  calculations_told = refl;
  literals_told = refl;
  good_typed = refl;
  good_ghost = refl;
  returned_typed = refl;
  late_typed = refl;
  inner_let_typed = refl;
  calls_typed = refl;
  mixed_typed = refl;
  loops_typed = refl;
  calculations_typed = refl;
  literals_typed = refl;
}
