-- All that is said of a method is what passing over it says.
use Rattle.df_nflow.proofs.Words.{◌≡◌, ℕ, List, ◌++◌, None, ◌∙◌, append_assoc, method_measure, Method, Program, Said, Flow, any_values, assert_measure, pass_all, locals_from, way_in, require_all, pass_method, begun, ended_over}
use Rattle.df_npass.specs.Methods.{setting_of}

in_order : (a r m f e : List Said) → ((a ++ r) ++ m) ++ (f ++ e) ≡ a ++ (r ++ (m ++ (f ++ e)))
in_order a r m f e = simp append_assoc

module _ (program : Program) (groups : List ℕ) (number : ℕ) (method : Method) where
  abbrev flow : Flow
  flow = pass_all (setting_of program groups number method) (way_in method) method.body (begun method).fresh

  -- what was said before the body, in it, and at its end
  pub whole_said : (all : List Said) → all ≡ (begun method).said ++ (flow.said ++ ended_over (way_in method).env (locals_from 0 (method.parameters ++ method.results)) method.postconditions flow)
      → all ≡ pass_method program groups number method
  whole_said all e =
      e ∙ in_order (any_values None method.parameters 0).said (require_all (way_in method) method.preconditions) (assert_measure (way_in method) (method_measure method)) flow.said
      (ended_over (way_in method).env (locals_from 0 (method.parameters ++ method.results)) method.postconditions flow)
