-- Syntax trees keep the tokens that matter, in their order.
use Rattle.std.proofs.Common.{◌≡◌, ℕ, ◌+◌, Bool, true, false, if◌then◌else◌, List, [], ◌∷◌, ◌++◌, length, Option, Some, None, refl, sym, ap, ◌∙◌, subst, append_assoc, arith}
use Rattle.std.specs.Option.{unwrap_or}
use Rattle.std.proofs.lemmas.List.{append-nil}
use Rattle.df_tok.specs.Token.{Token}
use Rattle.df_tree.specs.declared.label.Label.{Label}
use Rattle.df_tree.specs.declared.label.Span.{Span}
use Rattle.df_tree.specs.declared.label.Way.{Way}
use Rattle.df_tree.specs.declared.label.Way.TheVariants.{Pass, Title, Wrap, Make, Close}
use Rattle.df_tree.specs.Tree.{Tree, Leaf, Node, Trees, none, more, leaves, leaves_all}
use Rattle.df_tree.specs.Ast.{Mark, Ast, Kept, Made, asts_of, kept}
use Rattle.df_tree.specs.Grammar.{row}
use Rattle.df_tree.specs.Building.{Frame, opened, added, keep, mark_at, closed, enter, leave, built, built_all, ast_from, matters, that_matter}

abbrev kept_in : List Ast → List Mark
kept_in items = kept (asts_of items)

kept_joined : (xs ys : List Ast) → kept_in (xs ++ ys) ≡ kept_in xs ++ kept_in ys
kept_joined [] ys = refl
kept_joined (Kept x ∷ xs) ys = ap (λ ts. x ∷ ts) (kept_joined xs ys)
kept_joined (Made label span inside ∷ xs) ys = ap (λ ts. kept inside ++ ts) (kept_joined xs ys) ∙ sym (append_assoc (kept inside) (kept_in xs) (kept_in ys))

matter_joined : (at : ℕ) (xs ys : List Token) → that_matter at (xs ++ ys) ≡ that_matter at xs ++ that_matter (at + length xs) ys
matter_joined at [] ys = let e : at ≡ at + 0 = omega arith in ap (λ n. that_matter n ys) e
matter_joined at (x ∷ xs) ys =
    let e : at + 1 + length xs ≡ at + length (x ∷ xs) = omega arith in
    pick (matters x) (subst (λ n. that_matter (at + 1) (xs ++ ys) ≡ that_matter (at + 1) xs ++ that_matter n ys) e (matter_joined (at + 1) xs ys))
  where
    pick : (b : Bool) → that_matter (at + 1) (xs ++ ys) ≡ that_matter (at + 1) xs ++ that_matter (at + length (x ∷ xs)) ys
        → (if b then mark_at at x ∷ that_matter (at + 1) (xs ++ ys) else that_matter (at + 1) (xs ++ ys)) ≡ (if b then mark_at at x ∷ that_matter (at + 1) xs else that_matter (at + 1) xs) ++ that_matter (at + length (x ∷ xs)) ys
    pick true e = ap (λ ts. mark_at at x ∷ ts) e
    pick false e = e

-- one node more, with what its frame has
node_added : (outer inner : List Ast) (label : Label) (span : Span) → kept_in (outer ++ Made label span (asts_of inner) ∷ []) ≡ kept_in outer ++ kept_in inner
node_added outer inner label span = kept_joined outer (Made label span (asts_of inner) ∷ []) ∙ ap (λ ts. kept_in outer ++ ts) (append-nil (kept_in inner))

left_kept : (way : Way) (frame : Frame) (at after : ℕ) (inner : Frame) (fresh : List Mark) → kept_in inner.items ≡ kept_in (enter way at frame).items ++ fresh
    → kept_in (leave way frame after inner).items ≡ kept_in frame.items ++ fresh
left_kept Pass frame at after inner fresh e = e
left_kept (Title label) frame at after inner fresh e = e
left_kept (Wrap label) frame at after inner fresh e = append-nil (kept_in inner.items) ∙ e
left_kept (Make label) frame at after inner fresh e = node_added frame.items inner.items (unwrap_or inner.title label) _ ∙ ap (λ ts. kept_in frame.items ++ ts) e
left_kept Close frame at after inner fresh e = by inner.title ∙ ap (λ ts. kept_in frame.items ++ ts) e
  where
    by : (title : Option Label) → kept_in (frame.items ++ closed title after inner) ≡ kept_in frame.items ++ kept_in inner.items
    by None = kept_joined frame.items inner.items
    by (Some label) = node_added frame.items inner.items label _

token_kept : (at : ℕ) (x : Token) (frame : Frame) → kept_in (keep at x frame).items ≡ kept_in frame.items ++ that_matter at (x ∷ [])
token_kept at x frame = pick (matters x)
  where
    pick : (b : Bool) → kept_in (if b then added frame (Kept (mark_at at x) ∷ []) else frame).items ≡ kept_in frame.items ++ (if b then mark_at at x ∷ [] else [])
    pick true = kept_joined frame.items (Kept (mark_at at x) ∷ [])
    pick false = sym (append-nil (kept_in frame.items))

mutual
  built_kept : (at : ℕ) (frame : Frame) (t : Tree) → kept_in (built at frame t).items ≡ kept_in frame.items ++ that_matter at (leaves t)
  built_kept at frame (Leaf x) = token_kept at x frame
  built_kept at frame (Node n ts) =
      left_kept (row n).way frame at (at + length (leaves_all ts)) (built_all at (enter (row n).way at frame) ts) (that_matter at (leaves_all ts)) (all_kept at (enter (row n).way at frame) ts)

  all_kept : (at : ℕ) (frame : Frame) (ts : Trees) → kept_in (built_all at frame ts).items ≡ kept_in frame.items ++ that_matter at (leaves_all ts)
  all_kept at frame none = sym (append-nil (kept_in frame.items))
  all_kept at frame (more t ts) =
      all_kept (at + length (leaves t)) (built at frame t) ts ∙ ap (λ xs. xs ++ that_matter (at + length (leaves t)) (leaves_all ts)) (built_kept at frame t)
      ∙ append_assoc (kept_in frame.items) (that_matter at (leaves t)) (that_matter (at + length (leaves t)) (leaves_all ts))
      ∙ ap (λ xs. kept_in frame.items ++ xs) (sym (matter_joined at (leaves t) (leaves_all ts)))

pub keeps_all : (at : ℕ) (t : Tree) → kept (ast_from at t) ≡ that_matter at (leaves t)
keeps_all at t = built_kept at (opened at) t
