-- A source is refused in one way.
use Rattle.std.proofs.Common.{◌≡◌, ℕ, List, [], ◌∷◌, ◌++◌, Option, Some, None, refl, sym, ap, subst, ◌∙◌}
use Rattle.df_base.specs.declared.pos.Pos.{Pos}
use Rattle.df_base.specs.declared.refusal.Code.TheVariants as codes
use Rattle.df_base.specs.declared.refusal.Detail.TheVariants as details
use Rattle.df_base.specs.declared.refusal.Refusal.{Refusal}
use Rattle.df_tok.specs.Token.{Token}
use Rattle.df_tok.specs.Fault as fault
use Rattle.df_tok.specs.Fault.{IsRefusedAt, IsFault}
use Rattle.df_ntree.specs.File.{File}
use Rattle.df_ntree.specs.FileSpelling.{SpellsFile}
use Rattle.df_npdecl.specs.Refusing.{first_outside, IsRefusalOr, IsRefusal}
use Rattle.df_ntyping.specs.Laws.{OneRefusal}
use Rattle.df_ntyping.specs.Stages.{IsRefusedFile}
use Rattle.df_nfront.specs.Source.{IsDivided, IsRead}
use Rattle.df_nfront.specs.Refused.{IsRefused, bytes, tokens, file}
use Rattle.df_nfront.specs.Line.{detail_text, refusal_line, pos_text, rule_text}
use Rattle.df_nfront.specs.Told.{TellTheSame}
use Rattle.df_nfront.proofs.Sources.{OneDivision, OneFile, NoDivision, same_read}

abbrev pub OneFault : Type 0
OneFault = (before : List (List ℕ)) (source : List ℕ) (r other : Refusal) → IsFault before source r → IsFault before source other → r ≡ other

-- ---- refusals that tell the same

told_alike : (names others : List (List ℕ)) (r other : Refusal) → names ≡ others → r ≡ other → TellTheSame names others r other
told_alike names others r other same e = record {
  code = ap (λ (x : Refusal). x.code) e;
  detail = ap (λ (x : Refusal). x.detail) e;
  pos = λ not. ap (λ (x : Refusal). x.pos) e;
  line = λ name at. ap (λ (ns : List (List ℕ)). refusal_line name ns r) same ∙ ap (refusal_line name others) e;
}

-- a detail without a name is told with any names
told_nameless : (names others : List (List ℕ)) (r other : Refusal) → detail_text names r.code r.detail ≡ detail_text others r.code r.detail → r ≡ other → TellTheSame names others r other
told_nameless names others r other nameless e = record {
  code = ap (λ (x : Refusal). x.code) e;
  detail = ap (λ (x : Refusal). x.detail) e;
  pos = λ not. ap (λ (x : Refusal). x.pos) e;
  line = λ name at. ap (λ (text : List ℕ). pos_text name r.pos ++ rule_text r.code ++ text ++ 10 ∷ []) nameless ∙ ap (refusal_line name others) e;
}

told_syntax : (names others : List (List ℕ)) (r other : Refusal) → names ≡ others → r.code ≡ codes.Syntax → other.code ≡ codes.Syntax → r.detail ≡ details.Nothing → other.detail ≡ details.Nothing → TellTheSame names others r other
told_syntax names others r other same c c' d d' =
    let code = c ∙ sym c' in
    let detail = d ∙ sym d' in
    record {
      code = code;
      detail = detail;
      pos = λ not. absurd (not c);
      line = λ name at.
          let e : r ≡ other = λ i. record { code = code i; pos = at i; detail = detail i } in
          ap (λ (ns : List (List ℕ)). refusal_line name ns r) same ∙ ap (refusal_line name others) e;
    }

-- ---- each stage tells one

told_by_tokens : (names others : List (List ℕ)) (outside : Option Refusal) (r other : Refusal) → names ≡ others → IsRefusalOr outside r → IsRefusalOr outside other → TellTheSame names others r other
told_by_tokens names others (Some outside) r other same h g = told_alike names others r other same (h ∙ sym g)
told_by_tokens names others None r other same h g = told_syntax names others r other same h.0 g.0 h.1 g.1

-- faults of bytes tell of no name
refused_nameless : (names others known : List (List ℕ)) (rest : List ℕ) (pos : Pos) (count : ℕ) (r : Refusal) → IsRefusedAt known rest pos count r → detail_text names r.code r.detail ≡ detail_text others r.code r.detail
refused_nameless names others known rest pos count r (fault.number text more is lex longest comment num value e) = rw e refl
refused_nameless names others known rest pos count r (fault.many kind text more after is p c e) = rw e refl
refused_nameless names others known rest pos count r (fault.unclosed h e) = rw e refl
refused_nameless names others known rest pos count r (fault.byte h front b behind s high e) = rw e refl
refused_nameless names others known rest pos count r (fault.token h front behind s low e) = rw e refl

nameless : (names others : List (List ℕ)) (source : List ℕ) (r : Refusal) → IsFault [] source r → detail_text names r.code r.detail ≡ detail_text others r.code r.detail
nameless names others source r (fault.long more e) = rw e refl
nameless names others source r (fault.stop small pieces rest known reaches few h) = refused_nameless names others known rest _ _ r h

module _ (one_fault : OneFault) (no_division : NoDivision) (one_division : OneDivision) (one_file : OneFile) (one_refusal : OneRefusal) where
  -- ---- no two stages refuse a source

  divided_apart : (source : List ℕ) (names : List (List ℕ)) (all : List Token) (r : Refusal) → IsFault [] source r → IsDivided source names all → ⊥
  divided_apart source names all r h divided = no_division [] source r all names h divided.divided divided.short divided.few

  read_apart : (source : List ℕ) (names others : List (List ℕ)) (all : List Token) (one : File) → IsDivided source names all → ((one : File) → SpellsFile one all → ⊥) → IsRead source others one → ⊥
  read_apart source names others all one divided none read =
      let same = one_division [] source read.tokens all others names read.divided.divided divided.divided in
      none one (subst (SpellsFile one) same.0 read.spelled)

  -- ---- a file is refused once

  file_once : (source : List ℕ) (names others : List (List ℕ)) (one another : File) (r other : Refusal) → IsRead source names one → IsRead source others another → IsRefusedFile names one r → IsRefusedFile others another other → TellTheSame names others r other
  file_once source names others one another r other read its is refused =
      let same = same_read one_division one_file source names others one another read its in
      let moved = subst (λ (f : File). IsRefusedFile others f r) same.1 (subst (λ (ns : List (List ℕ)). IsRefusedFile ns one r) same.0 is) in
      told_alike names others r other same.0 (one_refusal others another r other its.spelled.0 moved refused)

  pub refused_once : (source : List ℕ) (names others : List (List ℕ)) (r other : Refusal) → IsRefused source names r → IsRefused source others other → TellTheSame names others r other
  refused_once source names others r other (bytes h) (bytes g) = told_nameless names others r other (nameless names others source r h) (one_fault [] source r other h g)
  refused_once source names others r other (bytes h) (tokens all divided none which) = absurd (divided_apart source others all r h divided)
  refused_once source names others r other (bytes h) (file one read is) = absurd (divided_apart source others read.tokens r h read.divided)
  refused_once source names others r other (tokens all divided none which) (bytes g) = absurd (divided_apart source names all other g divided)
  refused_once source names others r other (tokens all divided none which) (tokens all' divided' none' which') =
      let same = one_division [] source all all' names others divided.divided divided'.divided in
      told_by_tokens names others (first_outside all') r other same.1 (subst (λ (ts : List Token). IsRefusal ts r) same.0 which) which'
  refused_once source names others r other (tokens all divided none which) (file one read is) = absurd (read_apart source names others all one divided none read)
  refused_once source names others r other (file one read is) (bytes g) = absurd (divided_apart source names read.tokens other g read.divided)
  refused_once source names others r other (file one read is) (tokens all divided none which) = absurd (read_apart source others names all one divided none read)
  refused_once source names others r other (file one read is) (file another its refused) = file_once source names others one another r other read its is refused
