use Rattle.df_logtext.specs.View.{names_of}
use Rattle.df_logtext.proofs.TextWritten.{answer_reads}
use Rattle.df_logtext.proofs.reading.read.Goals as goal

pub returns : goal.returns
returns c = answer_reads (names_of c.args.names.now) c.args.bytes.now c.read_lines.result c.read_lines.ensures
