-- One turn of a search among files, and among writes that are to fail.
use Rattle.std.proofs.Common.{◌≡◌, ℕ, ◌+◌, ◌<◌, true, false, cond, List, ◌∷◌, map, drop, length, get_or, Some, nat_eq, string_bytes, refl, sym, ap, ◌∙◌}
use Rattle.std.proofs.lemmas.List.{at_drop_more}
use Rattle.std.proofs.lemmas.Bool.{false_from_ne_true}
use Rattle.std.proofs.lemmas.Bool.Decides.{Decides-eqb}
use Rattle.df_base.specs.Fakes.{takes_first}
use Rattle.df_base.specs.Names.{same_text}
use Rattle.df_base.specs.Outside.{bytes_of}
use Rattle.df_base.specs.Stored.{stored, planned}
use Rattle.df_base.specs.declared.files.store.File.{File}
use Rattle.df_base.specs.declared.sink.mem.Planned.{Planned}

module _ (files : List File) (i : ℕ) (file : File) (name : List ℕ) where
  bytes_of-turn : i < length files → file ≡ get_or files i file → bytes_of (map stored (drop i files)) name ≡ cond (same_text name (string_bytes file.name)) (Some file.bytes) (bytes_of (map stored (drop (i + 1) files)) name)
  bytes_of-turn less is =
      at_drop_more (λ rest. bytes_of (map stored rest) name) files i file less
      ∙ ap (λ here. bytes_of (stored here ∷ map stored (drop (i + 1) files)) name) (sym is)

  -- the file that has the name
  pub bytes_of-here : i < length files → file ≡ get_or files i file → same_text name (string_bytes file.name) ≡ true → bytes_of (map stored (drop i files)) name ≡ Some file.bytes
  bytes_of-here less is same = bytes_of-turn less is ∙ rw same refl

  -- a file of another name
  pub bytes_of-later : i < length files → file ≡ get_or files i file → same_text name (string_bytes file.name) ≡ false → bytes_of (map stored (drop (i + 1) files)) name ≡ bytes_of (map stored (drop i files)) name
  bytes_of-later less is other = sym (bytes_of-turn less is ∙ rw other refl)

module _ (plans : List Planned) (i : ℕ) (call : ℕ) (d : Planned) where
  takes_first-turn : i < length plans → takes_first (map planned (drop i plans)) call ≡ cond (nat_eq (get_or plans i d).call call) (Some (get_or plans i d).takes) (takes_first (map planned (drop (i + 1) plans)) call)
  takes_first-turn less = at_drop_more (λ rest. takes_first (map planned rest) call) plans i d less

  -- the plan of the call
  pub takes_first-here : i < length plans → (get_or plans i d).call ≡ call → takes_first (map planned (drop i plans)) call ≡ Some (get_or plans i d).takes
  takes_first-here less same = takes_first-turn less ∙ rw ((Decides-eqb (get_or plans i d).call call).1 same) refl

  -- the plan of another call
  pub takes_first-later : i < length plans → ((get_or plans i d).call ≡ call → ⊥) → takes_first (map planned (drop (i + 1) plans)) call ≡ takes_first (map planned (drop i plans)) call
  takes_first-later less other = sym (takes_first-turn less ∙ rw (false_from_ne_true (nat_eq (get_or plans i d).call call) (λ same. other ((Decides-eqb (get_or plans i d).call call).0 same))) refl)
