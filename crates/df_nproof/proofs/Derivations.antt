-- Logs that derive obligations, one after another.
use Rattle.std.proofs.Common.{◌≡◌, suc, List, [], ◌∷◌, ◌++◌, length, slice_get, Some, refl, ap}
use Rattle.std.specs.Global.{Vec}
use Rattle.df_lang.specs.Program.{Program}
use Rattle.df_form.specs.declared.log.Step as declared
use Rattle.df_form.specs.Log.{Step}
use Rattle.df_logtext.specs.View.{logs_of}
use Rattle.df_npass.specs.Methods.{Obligation}
use Rattle.df_nproof.specs.Derived.{IsDerived, AreDerived}

module _ (program : Program) where
  -- as many logs as obligations
  pub as_many : (os : List Obligation) (logs : List (List Step)) → AreDerived program os logs → length logs ≡ length os
  as_many [] [] are = refl
  as_many [] (log ∷ logs) are = absurd are
  as_many (o ∷ os) [] are = absurd are
  as_many (o ∷ os) (log ∷ logs) are = ap suc (as_many os logs are.1)

  pub joined : (xs ys : List Obligation) (front back : List (List Step)) → AreDerived program xs front → AreDerived program ys back → AreDerived program (xs ++ ys) (front ++ back)
  joined [] ys [] back are others = others
  joined [] ys (log ∷ logs) back are others = absurd are
  joined (x ∷ xs) ys [] back are others = absurd are
  joined (x ∷ xs) ys (log ∷ logs) back are others = (are.0, joined xs ys logs back are.1 others)

  -- one more
  pub one_more : (os : List Obligation) (o : Obligation) (logs : List (List Step)) (log : List Step) → AreDerived program os logs → IsDerived program o log → AreDerived program (os ++ o ∷ []) (logs ++ log ∷ [])
  one_more os o logs log are is = joined os (o ∷ []) logs (log ∷ []) are (is, tt)

  -- the code's logs of a front of the obligations, and of the others
  pub record Parted (xs ys : List Obligation) (parts : List (Vec declared.Step)) : Type 0 where
    pub front : List (Vec declared.Step)
    pub back : List (Vec declared.Step)
    pub of_front : AreDerived program xs (logs_of front)
    pub of_back : AreDerived program ys (logs_of back)

  pub parted : (xs ys : List Obligation) (parts : List (Vec declared.Step)) → AreDerived program (xs ++ ys) (logs_of parts) → Parted xs ys parts
  parted [] ys parts are = record { front = []; back = parts; of_front = tt; of_back = are }
  parted (x ∷ xs) ys [] are = absurd are
  parted (x ∷ xs) ys (part ∷ parts) are =
      let rest = parted xs ys parts are.1 in
      record { front = part ∷ rest.front; back = rest.back; of_front = (are.0, rest.of_front); of_back = rest.of_back }

  -- the log of an obligation among others
  pub derived_at : (before after : List Obligation) (o : Obligation) (logs : List (List Step)) → AreDerived program (before ++ o ∷ after) logs → (log : List Step) × (slice_get logs (length before) ≡ Some log) × IsDerived program o log
  derived_at [] after o [] are = absurd are
  derived_at [] after o (log ∷ logs) are = (log, refl, are.0)
  derived_at (b ∷ before) after o [] are = absurd are
  derived_at (b ∷ before) after o (log ∷ logs) are = derived_at before after o logs are.1
