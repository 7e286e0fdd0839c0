-- Where a walk goes on behind statements: what private contracts cite.
use Rattle.df_ntree.specs.File.{Statements, done, next}
use Rattle.df_ntyping.specs.Environment.{Environment, behind}

abbrev pub behind_all : Environment → Statements → Environment
behind_all env done = env
behind_all env (next statement others) = behind_all (behind env statement) others
