use Rattle.std.proofs.Common.{refl, subst, ◌∙◌}
use Rattle.df_base.specs.Outside.{Appends, AppendsPrefix}
use Rattle.df_listing.specs.Listing.{listing_text}
use Rattle.df_nmach.specs.View.{code_of}
use Rattle.df_ntop.proofs.Texts.{nothing_of}
use Rattle.df_ntop.proofs.putting.put_listing.Goals as goal

pub returns-in_default-clause-puts : goal.returns-in_default-clause-puts
returns-in_default-clause-puts g c = nothing_of (g.S.Sink.taken c.args.sink.now) (g.S.Sink.taken c.args.sink.now) (listing_text (code_of c.args.code.now)) refl

pub returns-in-Ok-put-clause-puts : goal.returns-in-Ok-put-clause-puts
returns-in-Ok-put-clause-puts g c = record {
  put = subst (Appends (g.S.Sink.taken c.args.sink.now) (g.S.Sink.taken c.put.new.self)) (c.as_slice.ensures.value ∙ c.in-Ok.ensures.text) c.in-Ok-put.ensures.took;
  ordinary = c.in-Ok.ensures.ordinary;
  only = λ other ordinary same. c.one_code.ensures other (code_of c.args.code.now) ordinary c.in-Ok.ensures.ordinary same;
}

pub returns-in-Err-Failed-clause-puts : goal.returns-in-Err-Failed-clause-puts
returns-in-Err-Failed-clause-puts g c = (
  c.in-Err-Failed.ensures.cause.rose (rw c.in-Err-Failed.field-0-is refl),
  subst (AppendsPrefix (g.S.Sink.taken c.args.sink.now) (g.S.Sink.taken c.put.new.self)) (c.as_slice.ensures.value ∙ c.in-Ok.ensures.text) (c.in-Err-Failed.ensures.failed (rw c.in-Err-Failed.field-0-is refl)),
)

pub returns-clause-puts : goal.returns-clause-puts
returns-clause-puts g c =
    nothing_of (g.S.Sink.taken c.args.sink.now) (g.S.Sink.taken c.put.new.self) (listing_text (code_of c.args.code.now)) (c.in-Err-Memory.ensures.memory (rw c.in-Err-Memory.field-0-is refl))
