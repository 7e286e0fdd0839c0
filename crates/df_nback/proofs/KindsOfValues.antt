-- Values of kinds are simple, one for each.
use Rattle.std.proofs.Common.{◌≡◌, suc, true, List, [], ◌∷◌, length, refl, ap}
use Rattle.std.specs.List.{list_all}
use Rattle.df_meaning.specs.Value.{Value}
use Rattle.df_meaning.specs.Value as values
use Rattle.df_meaning.proofs.Cases.{both, joined}
use Rattle.df_nplain.specs.Kind.{Kind}
use Rattle.df_nplain.specs.Kind as kinds
use Rattle.df_nplain.specs.Values.{has_kind, have_kinds}
use Rattle.df_nemit.specs.Correct.{is_simple}

kind_simple : (kind : Kind) (v : Value) → has_kind kind v ≡ true → is_simple v ≡ true
kind_simple kind (values.Truth b) has = refl
kind_simple kind (values.Character c) has = refl
kind_simple kind (values.Number n) has = refl
kind_simple (kinds.Number range) (values.Text cs) has = cc
kind_simple kinds.Truth (values.Text cs) has = cc
kind_simple kinds.Character (values.Text cs) has = cc

pub kinds_simple : (ks : List Kind) (vs : List Value) → have_kinds ks vs ≡ true → list_all is_simple vs ≡ true
kinds_simple [] [] have = refl
kinds_simple [] (v ∷ vs) have = cc
kinds_simple (k ∷ ks) [] have = cc
kinds_simple (k ∷ ks) (v ∷ vs) have = let have = both (has_kind k v) (have_kinds ks vs) have in joined _ _ (kind_simple k v have.0) (kinds_simple ks vs have.1)

pub kinds_long : (ks : List Kind) (vs : List Value) → have_kinds ks vs ≡ true → length vs ≡ length ks
kinds_long [] [] have = refl
kinds_long [] (v ∷ vs) have = cc
kinds_long (k ∷ ks) [] have = cc
kinds_long (k ∷ ks) (v ∷ vs) have = ap suc (kinds_long ks vs (both (has_kind k v) (have_kinds ks vs) have).1)
