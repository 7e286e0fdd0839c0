-- What the search for nodes that disagree tells.
use Rattle.std.proofs.Common.{◌≡◌, ℕ, ℤ, Bool, true, false, not, ◌||◌, List, Option, Some, None, slice_get, refl, sym, ◌∙◌, true≢false}
use Rattle.std.specs.Ordering.{int_eq}
use Rattle.std.proofs.lemmas.Bool.Decides.{Decides-int_eq}
use Rattle.std.proofs.lemmas.Option.{slice_get_within}
use Rattle.df_form.specs.declared.log.Pair.{Pair}
use Rattle.df_form.specs.Node.{Node, same_op}
use Rattle.df_form.proofs.Same.{same_op_equal}
use Rattle.df_table.specs.TableModel.{number_at}
use Rattle.df_table.specs.Disagreement.{Disagree, TellsDisagreement}
use Rattle.df_table.specs.Testing.{same_numbers, agree_both, agree, FindsTwo}
use Rattle.df_table.proofs.Deciding.{same_numbers-Decides, congruent-Decides}

three : (p q r : Bool) → (r || (not p || not q)) ≡ false → (p ≡ true) × (q ≡ true) × (r ≡ false)
three true true false e = (refl, refl, refl)
three p q true e = absurd (true≢false e)
three false q false e = absurd (true≢false e)
three true false false e = absurd (true≢false e)

disagree : (nodes : List Node) (table : List ℤ) (m n : ℕ) → agree nodes table m n ≡ false → Disagree nodes table m n
disagree nodes table m n e = by (slice_get nodes m) (slice_get nodes n) refl refl e
  where
    by : (o p : Option Node) → slice_get nodes m ≡ o → slice_get nodes n ≡ p → agree_both table m n o p ≡ false → Disagree nodes table m n
    by None p at other e = absurd (true≢false e)
    by (Some x) None at other e = absurd (true≢false e)
    by (Some x) (Some y) at other e =
        let tests = three (same_op x.op y.op) (same_numbers table x.parts y.parts) (int_eq (number_at table m) (number_at table n)) e in
        record {
          first = x;
          second = y;
          left = at;
          right = other;
          op = same_op_equal x.op y.op tests.0;
          parts = (same_numbers-Decides table x.parts y.parts).0 tests.1;
          unequal = λ same. true≢false (sym ((Decides-int_eq (number_at table m) (number_at table n)).1 same) ∙ tests.2);
        }

pub tells_two : (nodes : List Node) (table : List ℤ) (found : Option Pair) → FindsTwo nodes table found → TellsDisagreement nodes table found
tells_two nodes table (Some pair) e = disagree nodes table pair.left pair.right e
tells_two nodes table None e = λ m n a b at other. (congruent-Decides nodes table).0 e m (slice_get_within nodes m a at) n (slice_get_within nodes n b other) a b at other
