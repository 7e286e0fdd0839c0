-- Tokens and nodes of syntax trees stand in order, each within the text of the one around it.
use Rattle.std.proofs.Common.{◌≡◌, ℕ, ◌+◌, ◌≤◌, Bool, true, false, if◌then◌else◌, List, [], ◌∷◌, ◌++◌, length, Option, Some, None, refl, sym, ap, ◌∙◌, subst, length-append, arith}
use Rattle.std.specs.Option.{unwrap_or}
use Rattle.df_tok.specs.Token.{Token}
use Rattle.df_tree.specs.declared.label.Label.{Label}
use Rattle.df_tree.specs.declared.label.Way.{Way}
use Rattle.df_tree.specs.declared.label.Way.TheVariants.{Pass, Title, Wrap, Make, Close}
use Rattle.df_tree.specs.Tree.{Tree, Leaf, Node, Trees, none, more, leaves, leaves_all}
use Rattle.df_tree.specs.Ast.{Ast, Asts, Kept, Made, Nil, Next, asts_of, Lies}
use Rattle.df_tree.specs.Grammar.{row}
use Rattle.df_tree.specs.Building.{Frame, opened, added, keep, node_of, mark_at, closed, enter, leave, built, built_all, ast_from, matters}

from_before : (a b c : ℕ) (items : Asts) → a ≤ b → Lies b items c → Lies a items c
from_before a b c Nil le h = omega (arith, le, h)
from_before a b c (Next (Kept x) rest) le h = (omega (arith, le, h.0), h.1)
from_before a b c (Next (Made label span inside) rest) le h = (omega (arith, le, h.0), h.1, h.2)

to_behind : (a b c : ℕ) (items : Asts) → Lies a items b → b ≤ c → Lies a items c
to_behind a b c Nil h le = omega (arith, le, h)
to_behind a b c (Next (Kept x) rest) h le = (h.0, to_behind (x.place + 1) b c rest h.1 le)
to_behind a b c (Next (Made label span inside) rest) h le = (h.0, h.1, to_behind span.after b c rest h.2 le)

lies_joined : (a b c : ℕ) (xs ys : List Ast) → Lies a (asts_of xs) b → Lies b (asts_of ys) c → Lies a (asts_of (xs ++ ys)) c
lies_joined a b c [] ys h k = from_before a b c (asts_of ys) h k
lies_joined a b c (Kept x ∷ xs) ys h k = (h.0, lies_joined (x.place + 1) b c xs ys h.1 k)
lies_joined a b c (Made label span inside ∷ xs) ys h k = (h.0, h.1, lies_joined span.after b c xs ys h.2 k)

-- one node more, with what its frame has
node_lies : (a b c start : ℕ) (outer : List Ast) (inside : Asts) (label : Label) → Lies a (asts_of outer) b → Lies start inside c → start ≡ b
    → Lies a (asts_of (outer ++ Made label (record { start = start; after = c }) inside ∷ [])) c
node_lies a b c start outer inside label h k e = lies_joined a b c outer (Made label (record { start = start; after = c }) inside ∷ []) h (omega (arith, e), k, omega arith)

record IsPlaced (start : ℕ) (frame : Frame) (at : ℕ) : Type 0 where
  begins : frame.start ≡ start
  lies : Lies start (asts_of frame.items) at

left_lies : (way : Way) (frame : Frame) (at after : ℕ) (inner : Frame) → Lies frame.start (asts_of frame.items) at → IsPlaced (enter way at frame).start inner after → IsPlaced frame.start (leave way frame after inner) after
left_lies Pass frame at after inner h k = k
left_lies (Title label) frame at after inner h k = record { begins = k.begins; lies = k.lies }
left_lies (Wrap label) frame at after inner h k = record {
  begins = k.begins;
  lies = (omega (arith, k.begins), subst (λ s. Lies s (asts_of inner.items) after) (sym k.begins) k.lies, omega arith);
}
left_lies (Make label) frame at after inner h k = record {
  begins = refl;
  lies = node_lies frame.start at after inner.start frame.items (asts_of inner.items) (unwrap_or inner.title label) h (subst (λ s. Lies s (asts_of inner.items) after) (sym k.begins) k.lies) k.begins;
}
left_lies Close frame at after inner h k = record { begins = refl; lies = by inner.title }
  where
    by : (title : Option Label) → Lies frame.start (asts_of (frame.items ++ closed title after inner)) after
    by None = lies_joined frame.start at after frame.items inner.items h k.lies
    by (Some label) = node_lies frame.start at after inner.start frame.items (asts_of inner.items) label h (subst (λ s. Lies s (asts_of inner.items) after) (sym k.begins) k.lies) k.begins

token_lies : (x : Token) (frame : Frame) (at : ℕ) → Lies frame.start (asts_of frame.items) at → IsPlaced frame.start (keep at x frame) (at + 1)
token_lies x frame at h = pick (matters x)
  where
    pick : (b : Bool) → IsPlaced frame.start (if b then added frame (Kept (mark_at at x) ∷ []) else frame) (at + 1)
    pick true = record { begins = refl; lies = lies_joined frame.start at (at + 1) frame.items (Kept (mark_at at x) ∷ []) h (omega arith, omega arith) }
    pick false = record { begins = refl; lies = to_behind frame.start at (at + 1) (asts_of frame.items) h (omega arith) }

enters : (way : Way) (frame : Frame) (at : ℕ) → Lies frame.start (asts_of frame.items) at → Lies (enter way at frame).start (asts_of (enter way at frame).items) at
enters Pass frame at h = h
enters (Title label) frame at h = h
enters (Wrap label) frame at h = h
enters (Make label) frame at h = omega arith
enters Close frame at h = omega arith

mutual
  built_lies : (at : ℕ) (frame : Frame) (t : Tree) → Lies frame.start (asts_of frame.items) at → IsPlaced frame.start (built at frame t) (at + length (leaves t))
  built_lies at frame (Leaf x) h = token_lies x frame at h
  built_lies at frame (Node n ts) h =
      left_lies (row n).way frame at (at + length (leaves_all ts)) (built_all at (enter (row n).way at frame) ts) h (all_lie at (enter (row n).way at frame) ts (enters (row n).way frame at h))

  all_lie : (at : ℕ) (frame : Frame) (ts : Trees) → Lies frame.start (asts_of frame.items) at → IsPlaced frame.start (built_all at frame ts) (at + length (leaves_all ts))
  all_lie at frame none h = record { begins = refl; lies = to_behind frame.start at (at + 0) (asts_of frame.items) h (omega arith) }
  all_lie at frame (more t ts) h =
      let one = built_lies at frame t h in
      let others : IsPlaced (built at frame t).start (built_all (at + length (leaves t)) (built at frame t) ts) (at + length (leaves t) + length (leaves_all ts)) =
      all_lie (at + length (leaves t)) (built at frame t) ts (subst (λ s. Lies s (asts_of (built at frame t).items) (at + length (leaves t))) (sym one.begins) one.lies) in
      let place : at + length (leaves t) + length (leaves_all ts) ≡ at + length (leaves t ++ leaves_all ts) = omega (arith, length-append (leaves t) (leaves_all ts)) in
      subst (IsPlaced frame.start (built_all (at + length (leaves t)) (built at frame t) ts)) place
      (subst (λ s. IsPlaced s (built_all (at + length (leaves t)) (built at frame t) ts) (at + length (leaves t) + length (leaves_all ts))) one.begins others)

pub lies_in_text : (at : ℕ) (t : Tree) → Lies at (ast_from at t) (at + length (leaves t))
lies_in_text at t = (built_lies at (opened at) t (omega arith)).lies
