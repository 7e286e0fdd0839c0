-- The line that tells of a refusal: FILE:LINE:COL: Sk WORD and a detail.
use Rattle.std.specs.Prelude.{ℕ, List, [], ◌++◌, codes, slice_get, unwrap_or}
use Rattle.std.specs.Fmt.{decimal}
use Rattle.df_base.specs.declared.pos.Pos.{Pos}
use Rattle.df_base.specs.declared.refusal.Code.{Code}
use Rattle.df_base.specs.declared.refusal.Code.TheVariants as rules
use Rattle.df_base.specs.declared.refusal.Detail.{Detail}
use Rattle.df_base.specs.declared.refusal.Detail.TheVariants as details
use Rattle.df_base.specs.declared.refusal.Refusal.{Refusal}

-- the number of a rule, and its word
abbrev pub rule_text : Code → List ℕ
rule_text rules.Byte = codes "S1 byte"
rule_text rules.Token = codes "S2 token"
rule_text rules.Number = codes "S3 number"
rule_text rules.Outside = codes "S4 outside"
rule_text rules.Syntax = codes "S5 syntax"
rule_text rules.Unknown = codes "S6 unknown"
rule_text rules.Twice = codes "S7 twice"
rule_text rules.Cycle = codes "S8 cycle"
rule_text rules.Typing = codes "S9 typing"
rule_text rules.Uninferred = codes "S10 uninferred"
rule_text rules.Range = codes "S11 range"
rule_text rules.Ghost = codes "S12 ghost"
rule_text rules.Unassigned = codes "S13 unassigned"
rule_text rules.Limit = codes "S14 limit"
rule_text rules.Empty = codes "S15 empty"

-- the letter of rules of ghost code, and of typing
abbrev pub letter : Code → List ℕ
letter rules.Ghost = codes " G"
letter code = codes " E"

-- the text of a name
abbrev pub name_text : List (List ℕ) → ℕ → List ℕ
name_text names name = unwrap_or (slice_get names name) []

-- a name, or the number of a rule; a count is not told
abbrev pub detail_text : List (List ℕ) → Code → Detail → List ℕ
detail_text names code details.Nothing = []
detail_text names code (details.Word name) = codes " " ++ name_text names name
detail_text names code (details.Rule rule) = letter code ++ decimal rule
detail_text names code (details.Count count) = []

-- FILE:LINE:COL:
abbrev pub pos_text : List ℕ → Pos → List ℕ
pos_text file pos = file ++ codes ":" ++ decimal pos.line ++ codes ":" ++ decimal pos.col ++ codes ": "

abbrev pub refusal_line : List ℕ → List (List ℕ) → Refusal → List ℕ
refusal_line file names r = pos_text file r.pos ++ rule_text r.code ++ detail_text names r.code r.detail ++ codes "\n"
