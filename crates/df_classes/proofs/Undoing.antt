-- What is taken back stands as before.
use Rattle.std.proofs.Common.{◌≡◌, ℕ, ◌-◌, ◌<◌, List, [], ◌∷◌, ◌++◌, length, set, refl, ap, ◌∙◌, arith}
use Rattle.std.proofs.lemmas.List.{set-set, set-get_or, get_or-set_same, take_at, length_push}
use Rattle.df_classes.specs.declared.partition.Change.{Change}
use Rattle.df_classes.specs.declared.partition.Change.TheVariants as changes
use Rattle.df_classes.specs.mirror.State.{State, label_of, list_at, pushed, without_last, popped, moved, entered, undone, back}

shortened : (xs : List ℕ) (x : ℕ) → without_last (xs ++ x ∷ []) ≡ xs
shortened xs x =
    let long : length xs ≡ length (xs ++ x ∷ []) - 1 = omega (arith, length_push xs x) in
    take_at xs (x ∷ []) (length (xs ++ x ∷ []) - 1) long

pub pushed_back : (lists : List (List ℕ)) (n x : ℕ) → n < length lists → popped (pushed lists n x) n ≡ lists
pushed_back lists n x less =
    set-set lists n (list_at lists n ++ x ∷ []) (without_last (list_at (pushed lists n x) n))
    ∙ ap (λ (xs : List ℕ). set lists n (without_last xs)) (get_or-set_same lists n (list_at lists n ++ x ∷ []) [] less)
    ∙ ap (set lists n) (shortened (list_at lists n) x)
    ∙ set-get_or lists n []

pub moved_back : (node label : ℕ) (s : State) → node < length s.labels → label < length s.members → undone (changes.Moved node (label_of s node)) (moved node label s) ≡ s
moved_back node label s inside within =
    let labels : set (set s.labels node label) node (label_of s node) ≡ s.labels = set-set s.labels node label (label_of s node) ∙ set-get_or s.labels node node in
    let members : popped (pushed s.members label node) (label_of (moved node label s) node) ≡ s.members =
    ap (popped (pushed s.members label node)) (get_or-set_same s.labels node label node inside) ∙ pushed_back s.members label node within in
    λ i. record { labels = labels i; members = members i; buckets = s.buckets }

pub entered_back : (bucket node : ℕ) (s : State) → bucket < length s.buckets → undone (changes.Entered bucket) (entered bucket node s) ≡ s
entered_back bucket node s inside =
    let buckets = pushed_back s.buckets bucket node inside in
    λ i. record { labels = s.labels; members = s.members; buckets = buckets i }

pub back_more : (first second : List Change) (s : State) → back (first ++ second) s ≡ back first (back second s)
back_more [] second s = refl
back_more (c ∷ cs) second s = ap (undone c) (back_more cs second s)

pub back_last : (cs : List Change) (c : Change) (s t : State) → undone c s ≡ t → back (cs ++ c ∷ []) s ≡ back cs t
back_last cs c s t e = back_more cs (c ∷ []) s ∙ ap (back cs) e
