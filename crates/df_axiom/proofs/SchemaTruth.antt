-- Each schema is sound, so its instances are true.
use Rattle.std.proofs.Common.{◌≡◌, ℕ, ◌==◌, List, Some, subst, inl, inr}
use Rattle.std.specs.List.{AllByRecursion}
use Rattle.df_lemmas.proofs.Options.{then_some}
use Rattle.df_lemmas.proofs.Truths.{choice}
use Rattle.df_form.specs.World.{World}
use Rattle.df_form.specs.declared.node.Op.{Op}
use Rattle.df_form.specs.Node.{Node}
use Rattle.df_form.specs.Sorting.{IsTable}
use Rattle.df_form.specs.Truth.{Assignment}
use Rattle.df_form.proofs.Values.{AreSorted}
use Rattle.df_axiom.specs.Template.{Template, Entry}
use Rattle.df_axiom.specs.Instance.{Added, instantiated}
use Rattle.df_axiom.specs.Types.{types_template}
use Rattle.df_axiom.specs.Schemas.{written, written_template, template}
use Rattle.df_axiom.specs.Line.{first_op, line_by, instance_line}
use Rattle.df_axiom.specs.Truth.{IsTrue}
use Rattle.df_axiom.proofs.Facts.{IsSound}
use Rattle.df_axiom.proofs.Chosen.{all_get, is_written}
use Rattle.df_axiom.proofs.Sound.{IsKept, instance_kept}
use Rattle.df_axiom.proofs.Numbers as numbers
use Rattle.df_axiom.proofs.Characters as characters
use Rattle.df_axiom.proofs.Types.{types_sound}

module _ (depth : ℕ) (world : World) (assignment : Assignment) where
  abbrev P : Template → Type 0
  P t = IsSound depth world assignment t

  -- a lemma for each row, in their order
  written_sound : AllByRecursion (λ (e : Entry). P e.template) written
  unfolding written
  written_sound = (
    numbers.quotient_sound depth world assignment,
    (
      numbers.remainder_sound depth world assignment,
      (
        numbers.at_least_sound depth world assignment,
        (
          numbers.below_sound depth world assignment,
          (
            numbers.below_opposite_sound depth world assignment,
            (
              numbers.change_sound depth world assignment,
              (
                numbers.join_sound depth world assignment,
                (
                  numbers.goes_in_sound depth world assignment,
                  (
                    numbers.literal_sound depth world assignment,
                    (
                      numbers.product_sound depth world assignment,
                      (
                        numbers.compare_sound depth world assignment,
                        (
                          characters.at_least_sound depth world assignment,
                          (
                            characters.at_most_sound depth world assignment,
                            (
                              characters.again_sound depth world assignment,
                              (
                                characters.character_sound depth world assignment,
                                tt,
                              ),
                            ),
                          ),
                        ),
                      ),
                    ),
                  ),
                ),
              ),
            ),
          ),
        ),
      ),
    ),
  )

  pub template_sound : (op : Op) (schema k : ℕ) (t : Template) → template world op schema k ≡ Some t → P t
  template_sound op schema k t e =
      elim (choice (schema == 74) (types_template world op k) (written_template op schema k) (Some t) e) [
        | inl p ↦ types_sound depth world assignment op k t p.1
        | inr p ↦ (let row = is_written op schema k t p.1 in subst P row.is (all_get (λ (e : Entry). P e.template) written row.place row.e written_sound row.at))
      ]

pub line_kept : (depth : ℕ) (world : World) (assignment : Assignment) (nodes : List Node) (schema clause : ℕ) (terms : List ℕ) (added : Added) → AreSorted nodes → instance_line world nodes schema clause terms ≡ Some added
    → IsKept depth world assignment nodes added
line_kept depth world assignment nodes schema clause terms added sorted e =
    let first = then_some (line_by world nodes schema clause terms) (first_op nodes terms) added e in
    let line = then_some (instantiated nodes terms) (template world first.0 schema clause) added first.2 in
    instance_kept depth world assignment nodes terms line.0 added sorted (template_sound depth world assignment first.0 schema clause line.0 line.1) line.2

pub instances_true : (world : World) (nodes : List Node) (schema clause : ℕ) (terms : List ℕ) (added : Added) → IsTable nodes → instance_line world nodes schema clause terms ≡ Some added → IsTrue world added
instances_true world nodes schema clause terms added table e depth assignment = (line_kept depth world assignment nodes schema clause terms added (record { sorted = table.sorted }) e).holds
