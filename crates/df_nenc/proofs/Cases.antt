-- An expression from its first operand: its term and conditions, and then what is made over them.
use Rattle.df_nenc.proofs.Words.{◌≡◌, ℕ, List, [], ◌++◌, Option, Result, Ok, Err, IfOk, AllocError, sym, ap, ◌∙◌, subst, true, Expr, Node, Ty, Program, is_expr, Term, Sort, sort_of_type, Environment, Condition, term_of, conditions_under, tree_at, trees_in, path_in, IsTerm, Stands, IsPath, HasTerm, AreLocals, Gives, Encodes, IsOver, DeclaredCondition}
use Rattle.df_nenc.proofs.Lemmas.{grows_not, path_same, path_stays, over_stays, locals_same, is_term, gives_as, gives_then, gives_alone, Part, local_tree, env_sorted, term_is}

-- the whole, as it is seen
pub over_seen : {nodes : List Node} {terms : List ℕ} {whole seen : Expr} → IsOver nodes terms whole → whole ≡ seen → IsOver nodes terms seen
over_seen {nodes = nodes} {terms = terms} over is = subst (IsOver nodes terms) is over

-- the operand's term has the sort that is asked for
pub operand_term : (sort : Sort) (old new : List Node) (terms : List ℕ) (path : Option ℕ) (e : Expr) (n : ℕ) (before after : List DeclaredCondition) → Part sort old terms e → Encodes old new terms path e n before after → IsTerm sort new n
operand_term sort old new terms path e n before after part g = is_term new sort (term_of (trees_in old terms) e) n g.stands part.is

-- what is asked of the rest of a level behind its first operand
pub rest_asks : (old middle : List Node) (terms : List ℕ) (path : Option ℕ) (e seen : Expr) (m : ℕ) (before between : List DeclaredCondition) (sort : Sort) (Rest : List Node → Type 0)
    → IsOver old terms seen → ((nodes : List Node) → IsOver nodes terms seen → (Part sort nodes terms e) × (Rest nodes)) → IsPath old path → Encodes old middle terms path e m before between
    → (Rest middle) × ((IsPath middle path) × (IsTerm sort middle m))
rest_asks old middle terms path e seen m before between sort Rest over parts is_path g =
    ((parts middle (over_stays old middle terms seen g.grows over)).1, (path_stays old middle path g.grows is_path, operand_term sort old middle terms path e m before between (parts old over).0 g))

-- and what is made over it, with conditions of its own, is that of the whole
pub rest_encodes : (old middle new : List Node) (terms : List ℕ) (path : Option ℕ) (e whole seen : Expr) (m : ℕ) (before between after : List DeclaredCondition) (r : Result ℕ AllocError) (f : Environment → Term → Term) (d : Environment → Option Term → Term → List Condition)
    → IsOver old terms whole → IsPath old path → whole ≡ seen → Encodes old middle terms path e m before between
    → ((env : Environment) → term_of env seen ≡ f env (term_of env e)) → ((env : Environment) (on : Option Term) → conditions_under env on seen ≡ conditions_under env on e ++ d env on (term_of env e))
    → IfOk r (λ n. Gives (f (trees_in middle terms) (tree_at middle m)) (d (trees_in middle terms) (path_in middle path) (tree_at middle m)) middle new n between after) → IfOk r (λ n. Encodes old new terms path whole n before after)
rest_encodes old middle new terms path e whole seen m before between after (Err x) f d over is_path is g tree asked h = tt
rest_encodes old middle new terms path e whole seen m before between after (Ok n) f d over is_path is g tree asked h =
    let env = trees_in old terms in
    let same = locals_same old middle over.types terms g.grows over.locals in
    let on = path_same old middle path g.grows is_path in
    let made = g.stands.tree_is in
    gives_as _ _ _ _ old new n before after (sym (ap (term_of env) is ∙ tree env)) (sym (ap (conditions_under env (path_in old path)) is ∙ asked env (path_in old path)))
    (gives_then _ _ _ _ old middle new m n before between after g (gives_as _ _ _ _ middle new n between after (λ i. f (same i) (made i)) (λ i. d (same i) (on i) (made i)) h))

-- the term of a local
pub local_encodes : (nodes : List Node) (terms : List ℕ) (local n : ℕ) (sort : Sort) (cs : List DeclaredCondition) → (t : HasTerm sort nodes terms local) → n ≡ t.number → Gives (trees_in nodes terms local) [] nodes nodes n cs cs
local_encodes nodes terms local n sort cs t e =
    gives_alone (trees_in nodes terms local) nodes nodes n cs (grows_not nodes) (subst (λ k. Stands nodes (trees_in nodes terms local) k) (sym e) (record { below = t.is_term.below; tree_is = sym (local_tree nodes terms local t.number t.at) }))

-- the term of an expression of a type has the sort of the type
pub expression_term : (p : Program) (locals : List Ty) (ty : Ty) (old new : List Node) (terms : List ℕ) (e : Expr) (n : ℕ) → is_expr p locals ty e ≡ true → AreLocals old locals terms → Stands new (term_of (trees_in old terms) e) n → IsTerm (sort_of_type ty) new n
expression_term p locals ty old new terms e n typed all s = is_term new (sort_of_type ty) (term_of (trees_in old terms) e) n s (term_is p locals (trees_in old terms) (env_sorted old locals terms all) e ty typed)
