-- Loops over the members of a junction, an implication or an equivalence, by what is left of the list.
use Rattle.df_nenc.proofs.Words.{◌≡◌, ◌<◌, ◌≤◌, ◌+◌, ℕ, List, [], ◌∷◌, ◌++◌, length, drop, get_or, Option, Some, refl, sym, ap, JunctionKind, Members, expr_of, DeclaredMember, Node, Truths, term, terms_of, iff, members_of, implication_of, equivalence_of, joined, goes_on, narrowed_path, conditions_of_junction, conditions_of_implication, conditions_of_members, tree_at, trees_at, trees_in, path_in, Grows, IsTerm, Stands, IsPath, Gives, Encodes, AreMembersOver, implied_by, members_in, DeclaredCondition}
use Rattle.df_nenc.proofs.Lemmas.{grows_then, gives_alone, is_term, path_same, term_stays, locals_same, stands, narrowed_term, goes_on_is, member_at, members_next, members_done, members_left, with_none, all_next, reached_grown, reached_first, reached_last, extends_not, extends_then, extends_nodes, extends_by}
use Rattle.df_nenc.proofs.Junctions.{Junctioning, Implying, Equating, junction_next, implication_next}
use Rattle.df_nenc.proofs.Folding.{fold_steps, fold_stops}

-- ---- a junction

pub junction_starts : {old : List Node} {terms : List ℕ} {path : Option ℕ} {j : JunctionKind} {first : ℕ} {before : List DeclaredCondition} (all xs : List DeclaredMember) (formulas : List ℕ)
    → xs ≡ all → formulas ≡ first ∷ [] → AreMembersOver old terms (members_in all) → IsPath old path → IsTerm Truths old first → Junctioning old old terms path path j first first formulas before before (members_in all) (members_in xs)
junction_starts {old = old} {before = before} all xs formulas same one over is_path is =
    rw (same, one) (record { extends = extends_not old before; over = over; last_is = is; formulas_are = (is, tt); path_is = is_path; reached = reached_first _ _ old before })

-- the guard of the next member, and the path to it
pub guard_term : (j : JunctionKind) (now n1 : List Node) (last guard : ℕ) → IsTerm Truths now last → Stands n1 (goes_on j (tree_at now last)) guard → IsTerm Truths n1 guard
guard_term j now n1 last guard is s = is_term n1 Truths (goes_on j (tree_at now last)) guard s (goes_on_is j (tree_at now last) is.sort_is)

pub next_path : (now n1 : List Node) (on : Option ℕ) (formula p : ℕ) → IsTerm Truths now formula → Stands n1 (narrowed_path (path_in now on) (tree_at now formula)) p → IsPath n1 (Some p)
next_path now n1 on formula p is s = is_term n1 Truths (narrowed_path (path_in now on) (tree_at now formula)) p s (narrowed_term (path_in now on) (tree_at now formula) is.sort_is)

pub junction_steps : {old now n1 n2 next : List Node} {terms : List ℕ} {path on : Option ℕ} {j : JunctionKind} {first last guard p operand : ℕ} {formulas more : List ℕ} {before after between : List DeclaredCondition} {all : Members} (xs : List DeclaredMember) (i : ℕ) (x : DeclaredMember)
    → x ≡ get_or xs i x → i < length xs → AreMembersOver old terms all → Junctioning old now terms path on j first last formulas before after all (members_in (drop i xs))
    → Grows now n1 → Stands n1 (goes_on j (tree_at now last)) guard → Grows n1 n2 → Stands n2 (narrowed_path (path_in n1 on) (tree_at n1 guard)) p
    → Encodes n2 next terms (Some p) (expr_of x.operand) operand after between → more ≡ formulas ++ operand ∷ []
    → Junctioning old next terms path (Some p) j first operand more before between all (members_in (drop (i + 1) xs))
junction_steps {old = old} {now = now} {n1 = n1} {n2 = n2} {next = next} {terms = terms} {on = on} {j = j} {last = last} {guard = guard} {p = p} {operand = operand} {formulas = formulas} {before = before} {after = after} {between = between} xs i x is less over s g1 guard_is g2 path_is h pushed =
    let here = rw (members_next xs i x is less) at s in
    let to2 = grows_then now n1 n2 g1 g2 in
    let to = grows_then now n2 next to2 h.grows in
    let part = member_at xs i x is less s.over to2 in
    let is_path = next_path n1 n2 on guard p (guard_term j now n1 last guard s.last_is guard_is) path_is in
    let operand_is = is_term next Truths _ operand h.stands part.is in
    rw pushed (record {
      extends = extends_then s.extends (extends_then (extends_nodes now n2 after to2) (extends_by h));
      over = members_left now next terms to x.pos (expr_of x.operand) (members_in (drop (i + 1) xs)) here.over;
      last_is = operand_is;
      formulas_are = all_next now next formulas operand to s.formulas_are operand_is;
      path_is = term_stays Truths n2 next p h.grows is_path;
      reached = junction_next _ _ old now terms on (trees_in old terms) before after x.pos (expr_of x.operand) (members_in (drop (i + 1) xs)) j n1 n2 next formulas last guard p operand between (locals_same old n2 over.types terms (grows_then old now n2 s.extends.grows to2) over.locals) here.reached s.formulas_are s.path_is g1 guard_is g2 path_is h;
    })

pub junction_stops : {old now new : List Node} {terms : List ℕ} {path on : Option ℕ} {j : JunctionKind} {first last n : ℕ} {formulas : List ℕ} {before after : List DeclaredCondition} {all : Members} (xs : List DeclaredMember) (i : ℕ) (made : List ℕ)
    → length xs ≤ i → Junctioning old now terms path on j first last formulas before after all (members_in (drop i xs)) → made ≡ formulas → Grows now new → Stands new (joined j (terms_of (trees_at now made))) n
    → Gives (joined j (term (tree_at old first) (members_of (trees_in old terms) all))) (conditions_of_junction (trees_in old terms) (path_in old path) j (tree_at old first) all) old new n before after
junction_stops {old = old} {now = now} {new = new} {j = j} {n = n} {formulas = formulas} {before = before} {after = after} xs i made none s same g stands =
    let here = rw (members_done xs i none) at s in
    let r = reached_grown _ _ old now new before after _ (joined j (terms_of (trees_at now formulas))) [] [] here.reached g (ap (joined j) (sym (with_none (trees_at now formulas)))) refl in
    reached_last _ _ old new before after (joined j (terms_of (trees_at now formulas))) n r (rw same at stands)

-- ---- an implication

pub implication_starts : {old : List Node} {terms : List ℕ} {path : Option ℕ} {first : ℕ} {before : List DeclaredCondition} (all xs : List DeclaredMember) (premises : List ℕ)
    → xs ≡ all → premises ≡ [] → AreMembersOver old terms (members_in all) → IsPath old path → IsTerm Truths old first → Implying old old terms path path first first premises before before (members_in all) (members_in xs)
implication_starts {old = old} {before = before} all xs premises same none over is_path is =
    rw (same, none) (record { extends = extends_not old before; over = over; last_is = is; premises_are = tt; path_is = is_path; reached = reached_first _ _ old before })

pub implication_steps : {old now n1 next : List Node} {terms : List ℕ} {path on : Option ℕ} {first last p operand : ℕ} {premises more : List ℕ} {before after between : List DeclaredCondition} {all : Members} (xs : List DeclaredMember) (i : ℕ) (x : DeclaredMember)
    → x ≡ get_or xs i x → i < length xs → AreMembersOver old terms all → Implying old now terms path on first last premises before after all (members_in (drop i xs))
    → Grows now n1 → Stands n1 (narrowed_path (path_in now on) (tree_at now last)) p
    → Encodes n1 next terms (Some p) (expr_of x.operand) operand after between → more ≡ premises ++ last ∷ []
    → Implying old next terms path (Some p) first operand more before between all (members_in (drop (i + 1) xs))
implication_steps {old = old} {now = now} {n1 = n1} {next = next} {terms = terms} {on = on} {last = last} {p = p} {operand = operand} {premises = premises} {before = before} {after = after} {between = between} xs i x is less over s g path_is h pushed =
    let here = rw (members_next xs i x is less) at s in
    let to = grows_then now n1 next g h.grows in
    let part = member_at xs i x is less s.over g in
    rw pushed (record {
      extends = extends_then s.extends (extends_then (extends_nodes now n1 after g) (extends_by h));
      over = members_left now next terms to x.pos (expr_of x.operand) (members_in (drop (i + 1) xs)) here.over;
      last_is = is_term next Truths _ operand h.stands part.is;
      premises_are = all_next now next premises last to s.premises_are (term_stays Truths now next last to s.last_is);
      path_is = term_stays Truths n1 next p h.grows (next_path now n1 on last p s.last_is path_is);
      reached = implication_next _ _ old now terms on (trees_in old terms) before after x.pos (expr_of x.operand) (members_in (drop (i + 1) xs)) n1 next premises last p operand between (locals_same old n1 over.types terms (grows_then old now n1 s.extends.grows g) over.locals) here.reached s.premises_are s.last_is g path_is h;
    })

pub implication_stops : {old now new : List Node} {terms : List ℕ} {path on : Option ℕ} {first last n : ℕ} {premises : List ℕ} {before after : List DeclaredCondition} {all : Members} (xs : List DeclaredMember) (i : ℕ)
    → length xs ≤ i → Implying old now terms path on first last premises before after all (members_in (drop i xs)) → Grows now new → Stands new (implied_by (trees_at now premises) (tree_at now last)) n
    → Gives (implication_of (trees_in old terms) (tree_at old first) all) (conditions_of_implication (trees_in old terms) (path_in old path) (tree_at old first) all) old new n before after
implication_stops {old = old} {now = now} {new = new} {last = last} {n = n} {premises = premises} {before = before} {after = after} xs i none s g made =
    let here = rw (members_done xs i none) at s in
    let r = reached_grown _ _ old now new before after _ (implied_by (trees_at now premises) (tree_at now last)) [] [] here.reached g refl refl in
    reached_last _ _ old new before after (implied_by (trees_at now premises) (tree_at now last)) n r made

-- ---- an equivalence

pub equivalence_starts : {old : List Node} {terms : List ℕ} {path : Option ℕ} {first : ℕ} {before : List DeclaredCondition} (all xs : List DeclaredMember)
    → xs ≡ all → AreMembersOver old terms (members_in all) → IsTerm Truths old first → Equating old old terms path first first before before (members_in all) (members_in xs)
equivalence_starts {old = old} {before = before} all xs same over is = rw same (record { so_far = record { extends = extends_not old before; over = over; total_is = is; reached = reached_first _ _ old before } })

pub equivalence_steps : {old now n1 next : List Node} {terms : List ℕ} {path : Option ℕ} {first formula operand n : ℕ} {before after between : List DeclaredCondition} {all : Members} (xs : List DeclaredMember) (i : ℕ) (x : DeclaredMember)
    → x ≡ get_or xs i x → i < length xs → AreMembersOver old terms all → IsPath old path → Equating old now terms path first formula before after all (members_in (drop i xs))
    → Encodes now n1 terms path (expr_of x.operand) operand after between → Grows n1 next → Stands next (iff (tree_at n1 formula) (tree_at n1 operand)) n
    → Equating old next terms path first n before between all (members_in (drop (i + 1) xs))
equivalence_steps {old = old} {now = now} {n1 = n1} {next = next} {terms = terms} {path = path} {formula = formula} {operand = operand} {n = n} {before = before} {after = after} {between = between} xs i x is less over is_path s h g made =
    let here = rw (members_next xs i x is less) at s in
    let to = grows_then now n1 next h.grows g in
    let rest = members_in (drop (i + 1) xs) in
    let f = s.so_far.extends.grows in
    let folded = fold_steps _ _ Truths _ _ old now n1 next terms path (trees_in old terms) (path_in old path) (expr_of x.operand) formula operand n before after between between iff (λ on a b. []) (λ a. equivalence_of (trees_in old terms) a rest) (λ a. conditions_of_members (trees_in old terms) (path_in old path) rest)
    (locals_same old now over.types terms f over.locals) (path_same old now path f is_path) (path_same old n1 path (grows_then old now n1 f h.grows) is_path)
    (members_left now next terms to x.pos (expr_of x.operand) rest here.so_far.over) (is_term next Truths _ n made refl) here.so_far h (gives_alone _ n1 next n between g made) in
    record { so_far = folded }

pub equivalence_stops : {old now : List Node} {terms : List ℕ} {path : Option ℕ} {first formula : ℕ} {before after : List DeclaredCondition} {all : Members} (xs : List DeclaredMember) (i : ℕ)
    → length xs ≤ i → Equating old now terms path first formula before after all (members_in (drop i xs))
    → Gives (equivalence_of (trees_in old terms) (tree_at old first) all) (conditions_of_members (trees_in old terms) (path_in old path) all) old now formula before after
equivalence_stops xs i none s = let here = rw (members_done xs i none) at s in fold_stops here.so_far
