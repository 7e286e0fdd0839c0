-- The steps of loops over lists, whose walk tells the first refusal.
use Rattle.std.proofs.Common.{◌≡◌, ℕ, ◌+◌, ◌<◌, List, [], ◌∷◌, ◌++◌, length, map, drop, get_or, Some, None, Ok, Err, refl, sym, ap, ◌∙◌, append_assoc}
use Rattle.std.proofs.lemmas.List.{drop_more}
use Rattle.df_base.specs.declared.refusal.Stop.{Stop}
use Rattle.df_base.specs.declared.refusal.Stop.TheVariants as stops
use Rattle.df_ntexpr.specs.Replies.{Reply, Replies}
use Rattle.df_ntstmt.specs.mirror.Steps.{and_then, in_front}

-- ---- lists

-- the next element, and those behind it
pub cut : {X Y : Type 0} (f : X → Y) (xs : List X) (i : ℕ) (x : X) → i < length xs → x ≡ get_or xs i x → map f (drop i xs) ≡ f x ∷ map f (drop (i + 1) xs)
cut f xs i x lt is = ap (map f) (drop_more xs i x lt ∙ ap (λ (y : _). y ∷ drop (i + 1) xs) (sym is))

-- ---- answers one after another

pub then_then : {A B C : Type 0} (answer : Reply A) (f : A → Reply B) (g : B → Reply C) → and_then (and_then answer f) g ≡ and_then answer (λ (a : A). and_then (f a) g)
then_then (Ok a) f g = refl
then_then (Err refusal) f g = refl

-- what is told ends the walk
pub stops_there : {A B X Z : Type 0} (v : X → A) (w : Z → B) (stop : Stop) (answer : Reply A) (go : A → Reply B) (total : Reply B) → Replies v (Err stop) answer → and_then answer go ≡ total → Replies w (Err stop) total
stops_there v w stops.Memory answer go total h is = tt
stops_there v w (stops.Refused refusal) answer go total h is = sym is ∙ ap (λ (reply : Reply _). and_then reply go) h

-- ---- what was made, in front of what is left

pub front_more : {A : Type 0} (before : List A) (one : A) (rest : Reply (List A)) → in_front before (and_then rest (λ (others : List A). Ok (one ∷ others))) ≡ in_front (before ++ one ∷ []) rest
front_more before one (Ok others) = ap Ok (sym (append_assoc before (one ∷ []) others))
front_more before one (Err refusal) = refl

pub front_goes : {A B : Type 0} (make : A → B) (before : List B) (answer : Reply A) (a : A) (all rest total : Reply (List B)) → all ≡ and_then answer (λ (x : A). and_then rest (λ (others : List B). Ok (make x ∷ others))) → answer ≡ Ok a → in_front before all ≡ total
    → in_front (before ++ make a ∷ []) rest ≡ total
front_goes make before answer a all rest total is made so_far =
    sym (front_more before (make a) rest) ∙ ap (λ (reply : Reply _). in_front before (and_then reply (λ (x : _). and_then rest (λ (others : List _). Ok (make x ∷ others))))) (sym made) ∙ ap (in_front before) (sym is) ∙ so_far

pub front_stops : {A B X Z : Type 0} (v : X → A) (w : Z → List B) (stop : Stop) (before : List B) (answer : Reply A) (go : A → Reply (List B)) (all total : Reply (List B)) → all ≡ and_then answer go → Replies v (Err stop) answer → in_front before all ≡ total
    → Replies w (Err stop) total
front_stops v w stops.Memory before answer go all total is h so_far = tt
front_stops v w (stops.Refused refusal) before answer go all total is h so_far = sym so_far ∙ ap (in_front before) (is ∙ ap (λ (reply : Reply _). and_then reply go) h)

-- ---- one element more of a list that is walked

pub walk_goes : {T V A R : Type 0} (f : T → V) (walk : List V → Reply (List R)) (one : V → Reply A) (make : A → R) (items : List T) (i : ℕ) (item : T) (before : List R) (a : A) (total : Reply (List R))
    → ((x : V) (xs : List V) → walk (x ∷ xs) ≡ and_then (one x) (λ (y : A). and_then (walk xs) (λ (others : List R). Ok (make y ∷ others)))) → i < length items → item ≡ get_or items i item → one (f item) ≡ Ok a → in_front before (walk (map f (drop i items))) ≡ total
    → in_front (before ++ make a ∷ []) (walk (map f (drop (i + 1) items))) ≡ total
walk_goes f walk one make items i item before a total step lt is made so_far =
    front_goes make before (one (f item)) a (walk (map f (drop i items))) (walk (map f (drop (i + 1) items))) total (ap walk (cut f items i item lt is) ∙ step (f item) (map f (drop (i + 1) items))) made so_far

pub walk_stops : {T V A R X Z : Type 0} (v : X → A) (w : Z → List R) (stop : Stop) (f : T → V) (walk : List V → Reply (List R)) (one : V → Reply A) (make : A → R) (items : List T) (i : ℕ) (item : T) (before : List R) (total : Reply (List R))
    → ((x : V) (xs : List V) → walk (x ∷ xs) ≡ and_then (one x) (λ (y : A). and_then (walk xs) (λ (others : List R). Ok (make y ∷ others)))) → i < length items → item ≡ get_or items i item → Replies v (Err stop) (one (f item)) → in_front before (walk (map f (drop i items))) ≡ total
    → Replies w (Err stop) total
walk_stops v w stop f walk one make items i item before total step lt is told so_far =
    front_stops v w stop before (one (f item)) (λ (y : _). and_then (walk (map f (drop (i + 1) items))) (λ (others : List _). Ok (make y ∷ others))) (walk (map f (drop i items))) total (ap walk (cut f items i item lt is) ∙ step (f item) (map f (drop (i + 1) items))) told so_far
