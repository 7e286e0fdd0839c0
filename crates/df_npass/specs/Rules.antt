-- Passing over statements by single assignment: what is known and what is owed, in order, and the four rules by which
-- both grow: `assume`, `assert`, `havoc` and `join`.
use Rattle.std.specs.Prelude.{ℕ, suc, pos, negsuc, Bool, ◌==◌, ◌||◌, if◌then◌else◌, List, [], ◌∷◌, ◌++◌, map, Option, None, Some}
use Rattle.std.specs.List.{list_all, flat_map}
use Rattle.df_base.specs.declared.pos.Pos.{Pos}
use Rattle.df_lang.specs.declared.ty.Ty.{Ty}
use Rattle.df_lang.specs.declared.ty.Ty.TheVariants as types
use Rattle.df_meaning.specs.declared.kind.Kind.{Kind}
use Rattle.df_meaning.specs.Modular.{Changed}
use Rattle.df_nterm.specs.Term.{Sort, Numbers, Truths, Characters, Term, terms_of, of_one, literal, free, disjunction, sort_of_type}
use Rattle.df_nterm.specs.Term as ops
use Rattle.df_nterm.specs.Same.{same_term}
use Rattle.df_nterm.specs.Expressions.{Environment, Condition, equal_in}
pub use Rattle.df_nterm.specs.Expressions.{on_path, narrowed_path}

-- A formula that is known from here on; one that is owed by a kind at a place is so behind it.
pub data Said : Type 0 where
  Known : Term → Said
  Owed : Pos → Kind → Term → Said

-- Where runs have come: a term for each local; and the path condition, true of the runs that come here, if not all do.
pub record Way : Type 0 where
  pub env : Environment
  pub path : Option Term

-- the runs of which the formula is true
abbrev pub narrowed : Way → Term → Way
narrowed way formula = record { env = way.env; path = Some (narrowed_path way.path formula) }

abbrev pub over : Environment → Way → Way
over env way = record { env = env; path = way.path }

-- another term for a local
abbrev pub with_term : Environment → ℕ → Term → Environment
with_term env local a = λ n. if n == local then a else env n

-- ---- `assume`: a formula is known

abbrev pub assume : Option Term → Term → List Said
assume path formula = Known (on_path path formula) ∷ []

abbrev pub assume_all : Option Term → List Condition → List Said
assume_all path conditions = map (λ (c : Condition). Known (on_path path c.formula)) conditions

-- ---- `assert`: it is owed

abbrev pub assert : Option Term → Pos → Kind → Term → List Said
assert path at kind formula = Owed at kind (on_path path formula) ∷ []

abbrev pub assert_all : Option Term → List Condition → List Said
assert_all path conditions = map (λ (c : Condition). Owed c.pos c.kind (on_path path c.formula)) conditions

-- ---- `havoc`: any value of a type

-- a value of the type; of `int`, of truths and of characters there is nothing to say
abbrev pub assume_type : Option Term → Ty → Term → List Said
assume_type path (types.Newtype id) a = assume path (of_one (ops.Is (types.Newtype id)) a)
assume_type path types.Nat a = assume path (of_one (ops.Is types.Nat) a)
assume_type path types.Int a = []
assume_type path types.Bool a = []
assume_type path types.Char a = []

-- the free term of a number, of a type
abbrev pub free_of : ℕ → Ty → Term
free_of number ty = free number (sort_of_type ty)

-- what is said on the way to a place, the number of the next free term, and the way from there
pub record Moved : Type 0 where
  pub said : List Said
  pub fresh : ℕ
  pub way : Way

-- the locals have any values of their types
abbrev pub havoc : List Changed → ℕ → Way → Moved
havoc [] fresh way = record { said = []; fresh = fresh; way = way }
havoc (changed ∷ others) fresh way =
    let more = havoc others (suc fresh) (over (with_term way.env changed.local (free_of fresh changed.ty)) way) in
    record { said = assume_type way.path changed.ty (free_of fresh changed.ty) ++ more.said; fresh = more.fresh; way = more.way }

-- ---- `join`: ways that come together

abbrev pub are_same : Term → List Way → ℕ → Bool
are_same a ways local = list_all (λ (way : Way). same_term a (way.env local)) ways

-- A term of the sort, for a local without a value: it is not read, and no expression with a value has it.
abbrev pub some_term : Sort → Term
some_term Numbers = of_one ops.Code (of_one ops.Chr (literal (negsuc 0)))
some_term Truths = of_one (ops.Is types.Int) (literal (pos 0))
some_term Characters = of_one ops.Chr (literal (negsuc 0))

abbrev pub is_unset : Term → Bool
is_unset a = same_term a (some_term Numbers) || same_term a (some_term Truths) || same_term a (some_term Characters)

-- on the way of the path the term is that of the local there, if it has a value
abbrev pub assume_there : Ty → Term → Option Term → Term → List Said
assume_there ty a path b = if is_unset b then [] else assume path (equal_in ty a b)

-- so on each way
abbrev pub assume_joined : Ty → ℕ → Term → List Way → List Said
assume_joined ty local a ways = flat_map (λ (way : Way). assume_there ty a way.path (way.env local)) ways

-- a local that has its term on each way keeps it; another one is a new free term
abbrev pub join_locals : List Changed → List Way → ℕ → Environment → Option Term → Moved
join_locals [] ways fresh env path = record { said = []; fresh = fresh; way = record { env = env; path = path } }
join_locals (changed ∷ others) ways fresh env path =
    if are_same (env changed.local) ways changed.local then join_locals others ways fresh env path
    else (
    let more = join_locals others ways (suc fresh) (with_term env changed.local (free_of fresh changed.ty)) path in
    record { said = assume_joined changed.ty changed.local (free_of fresh changed.ty) ways ++ more.said; fresh = more.fresh; way = more.way })

-- one of the paths; none where all runs come
abbrev pub either_path : Option Term → Option (List Term) → Option (List Term)
either_path None others = None
either_path (Some path) None = None
either_path (Some path) (Some others) = Some (path ∷ others)

abbrev pub paths_of : List Way → Option (List Term)
paths_of [] = Some []
paths_of (way ∷ others) = either_path way.path (paths_of others)

abbrev pub any_path : Option (List Term) → Option Term
any_path None = None
any_path (Some paths) = Some (disjunction (terms_of paths))

-- where it comes to, if any run does
pub record Joined : Type 0 where
  pub said : List Said
  pub fresh : ℕ
  pub way : Option Way

abbrev pub there : Moved → Joined
there moved = record { said = moved.said; fresh = moved.fresh; way = Some moved.way }

-- behind it these locals alone have other terms than before
abbrev pub changed_alone : List Changed → Environment → Environment → Environment
changed_alone [] env now = env
changed_alone (changed ∷ others) env now = with_term (changed_alone others env now) changed.local (now changed.local)

-- The ways come together in the environment, on the given path; of what they changed these locals alone are kept. One
-- way keeps its path.
abbrev pub join : Option Term → Environment → List Changed → List Way → ℕ → Joined
join path env changed [] fresh = record { said = []; fresh = fresh; way = None }
join path env changed (way ∷ []) fresh = record { said = []; fresh = fresh; way = Some (over (changed_alone changed env way.env) way) }
join path env changed (way ∷ other ∷ others) fresh = there (join_locals changed (way ∷ other ∷ others) fresh env path)

-- Ways of branches, of which one alone leads on as it is: what is declared inside it has a value yet.
abbrev pub join_branches : Option Term → Environment → List Changed → List Way → ℕ → Joined
join_branches path env changed [] fresh = join path env changed [] fresh
join_branches path env changed (way ∷ []) fresh = record { said = []; fresh = fresh; way = Some way }
join_branches path env changed (way ∷ other ∷ others) fresh = join path env changed (way ∷ other ∷ others) fresh
