-- From components of the graph of calls to groups of a program.
use Rattle.std.proofs.Common.{◌≡◌, ℕ, zero, suc, ◌<◌, ◌≤◌, ◌⊎◌, inl, inr, List, [], ◌∷◌, length, map, slice_get, Contains, refl, sym, ◌∙◌, subst, arith}
use Rattle.std.specs.Option.{option_map_or}
use Rattle.std.proofs.lemmas.List.{length-map, get_or_past}
use Rattle.std.proofs.lemmas.Bool.{cases_lt}
use Rattle.df_lemmas.proofs.Alls.{none_there}
use Rattle.df_types.specs.Program.{Decl, Program}
use Rattle.df_types.specs.Calls.{callees, callees_at, Reaches, by_none, by_call, group_at, AreGroups}
use Rattle.df_groups2.specs.Graph.{targets_in, Path, stay, along}
use Rattle.df_groups2.specs.Calls.{calls_of}
use Rattle.df_groups2.specs.Grouping.{AreComponents}
use Rattle.df_groups2.specs.Laws.{OnePartition}

called : (decls : List Decl) (v : ℕ) → targets_in (map callees decls) v ≡ option_map_or callees (slice_get decls v) []
called [] v = refl
called (decl ∷ decls) zero = refl
called (decl ∷ decls) (suc v) = called decls v

module _ (program : Program) where
  calls_at : (v : ℕ) → targets_in (calls_of program) v ≡ callees_at program v
  calls_at v = called program.decls v

  calls_from : (a b : ℕ) → Contains (callees_at program a) b → Contains (targets_in (calls_of program) a) b
  calls_from a b c = subst (λ (xs : List ℕ). Contains xs b) (sym (calls_at a)) c

  calls_to : (a b : ℕ) → Contains (targets_in (calls_of program) a) b → Contains (callees_at program a) b
  calls_to a b c = subst (λ (xs : List ℕ). Contains xs b) (calls_at a) c

  -- only declarations call
  caller_within : (a b : ℕ) → Contains (targets_in (calls_of program) a) b → a < length (calls_of program)
  caller_within a b c = either (cases_lt a (length (calls_of program)))
    where
      either : (a < length (calls_of program)) ⊎ (length (calls_of program) ≤ a) → a < length (calls_of program)
      either (inl lt) = lt
      either (inr past) = absurd (none_there b (subst (λ (xs : List ℕ). Contains xs b) (get_or_past (calls_of program) a [] past) c))

  path_reaches : (a b : ℕ) → Path (targets_in (calls_of program)) a b → Reaches program a b
  path_reaches a b stay = by_none
  path_reaches a b (along {target = m} c p) = by_call (calls_to a m c) (path_reaches m b p)

  module _ (groups : List ℕ) (s : AreComponents (targets_in (calls_of program)) (length (calls_of program)) groups) where
    ordered : (a b : ℕ) → Contains (callees_at program a) b → group_at groups b ≤ group_at groups a
    ordered a b c = let call = calls_from a b c in s.ordered a b (caller_within a b call) call

    -- who is reached is in no later group
    no_later : (a b : ℕ) → Reaches program a b → group_at groups b ≤ group_at groups a
    no_later a b by_none = omega arith
    no_later a b (by_call {callee = m} c r) =
        let one : group_at groups m ≤ group_at groups a = ordered a m c in
        let rest : group_at groups b ≤ group_at groups m = no_later m b r in
        omega arith

    count : length groups ≡ length program.decls
    count = s.each ∙ length-map program.decls callees

    pub components_are_groups : AreGroups program groups
    components_are_groups = record {
      each = count;
      ordered = ordered;
      together = λ a b la lb ab ba. (let one : group_at groups b ≤ group_at groups a = no_later a b ab in let other : group_at groups a ≤ group_at groups b = no_later b a ba in omega arith);
      apart = λ a b la lb e. (let long : length groups ≡ length (calls_of program) = s.each in path_reaches a b (s.apart a b (omega arith) (omega arith) e));
    }

pub partitions_agree : OnePartition
partitions_agree program groups others g o a b la lb e =
    let long : length groups ≡ length program.decls = g.each in
    let other_long : length others ≡ length program.decls = o.each in
    let there : Reaches program a b = g.apart a b (omega arith) (omega arith) e in
    let back : Reaches program b a = g.apart b a (omega arith) (omega arith) (sym e) in
    o.together a b (omega arith) (omega arith) there back
