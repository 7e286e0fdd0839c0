-- Ways that lead out of a loop or a method.
use Rattle.df_nflow.proofs.Words.{◌≡◌, ℕ, suc, ◌+◌, List, [], ◌∷◌, ◌++◌, length, refl, sym, ap, ◌∙◌, arith, Bool, true, false, map, None, subst, append-nil, length-map, map-append, Param, Ty, Changed, locals_from, Way, Flow, changed_of, changed_in, HaveTerms, arrival_in, arrivals_in, DeclaredChanged, Standing, Passes, are_at, Arrival, arrival, IsSortedWay, AreSortedWays, DeclaredArrived, Node, sort_of_term, trees_in, env_sorted, Environment}
use Rattle.df_nflow.proofs.Changes.{at_first, at_rest, type_at}
use Rattle.df_nflow.proofs.Terms.{locals_are}

pub sorted_way : (nodes : List Node) (types : List Ty) (terms : List ℕ) (way : Way) (changed : List Changed) → way.env ≡ trees_in nodes terms → HaveTerms nodes types terms → are_at types changed ≡ true → IsSortedWay changed way
sorted_way nodes types terms way [] e h at = tt
sorted_way nodes types terms way (c ∷ others) e h at = (
  ap (λ (env : Environment). sort_of_term (env c.local)) e ∙ (env_sorted nodes types terms (locals_are nodes types terms h)).sorted c.local c.ty (type_at types c.local c.ty (at_first types c others at)),
  sorted_way nodes types terms way others e h (at_rest types c others at),
)

-- one way more waits
pub one_more : (nodes : List Node) (before after : List DeclaredArrived) (one : DeclaredArrived) (arrived : Arrival) → after ≡ before ++ one ∷ [] → arrival_in nodes one ≡ arrived → arrivals_in nodes after ≡ arrivals_in nodes before ++ arrived ∷ []
one_more nodes before after one arrived e same =
    ap (arrivals_in nodes) e ∙ map-append (arrival_in nodes) before (one ∷ []) ∙ ap (λ (a : Arrival). arrivals_in nodes before ++ a ∷ []) same

-- these ways leave, and no run goes on
module _ (in_loop in_method : List Changed) (s : Standing) (breaks returns : List Way) (out ends : List Arrival) where
  pub leaves : out ≡ s.breaks ++ map (arrival in_loop) breaks → ends ≡ s.returns ++ map (arrival in_method) returns → AreSortedWays in_loop breaks → AreSortedWays in_method returns
      → Passes in_loop in_method s (record { said = []; fresh = s.fresh; way = None; breaks = breaks; returns = returns; loses = true })
      (record { types = s.types; entry = s.entry; said = s.said; fresh = s.fresh; way = s.way; trail = s.trail; breaks = out; returns = ends }) false true
  leaves e f sorted_breaks sorted_returns = record {
    types = refl;
    entry = refl;
    said = sym (append-nil s.said);
    fresh = refl;
    way = refl;
    loses = refl;
    kept = [];
    trail = sym (append-nil s.trail);
    back = refl;
    breaks = e;
    returns = f;
    sorted_breaks = sorted_breaks;
    sorted_returns = sorted_returns;
  }

pub told : (in_loop in_method : List Changed) (a b : Standing) (flow : Flow) (on lost on_told lost_told : Bool) → on_told ≡ on → lost_told ≡ lost → Passes in_loop in_method a flow b on lost → Passes in_loop in_method a flow b on_told lost_told
told in_loop in_method a b flow on lost on_told lost_told e f p =
    subst (λ (c : Bool). Passes in_loop in_method a flow b c lost_told) (sym e) (subst (λ (c : Bool). Passes in_loop in_method a flow b on c) (sym f) p)
