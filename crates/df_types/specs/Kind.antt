-- The word of each kind, as reports print it.
use Rattle.std.specs.Prelude.{ℕ, List, codes}
use Rattle.df_types.specs.declared.kind.Kind.{Kind}
use Rattle.df_types.specs.declared.kind.Kind.TheVariants.{Assert, Requires, Ensures, Entry, Turn, Decreases, Reads, Modifies, Index, Null, Divisor, Range, Match, Choice, Calc, Size, Distinct}

abbrev pub word_of : Kind → List ℕ
word_of Assert = codes "assert"
word_of Requires = codes "requires"
word_of Ensures = codes "ensures"
word_of Entry = codes "entry"
word_of Turn = codes "turn"
word_of Decreases = codes "decreases"
word_of Reads = codes "reads"
word_of Modifies = codes "modifies"
word_of Index = codes "index"
word_of Null = codes "null"
word_of Divisor = codes "divisor"
word_of Range = codes "range"
word_of Match = codes "match"
word_of Choice = codes "choice"
word_of Calc = codes "calc"
word_of Size = codes "size"
word_of Distinct = codes "distinct"
