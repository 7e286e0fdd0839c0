use Rattle.std.proofs.Common.{◌≡◌, ◌∙◌, map, refl, sym, ap, arith}
use Rattle.std.proofs.lemmas.List.{length-map}
use Rattle.df_tok.specs.Token.{view}
use Rattle.df_pexpr.specs.mirror.Construction.{construction_of}
use Rattle.df_base.specs.declared.refusal.Refusal.{Refusal}
use Rattle.df_pexpr.proofs.Stopping.{stopped_there, ended_there}
use Rattle.df_pexpr.proofs.Spelled.{few_tokens, one_found, text_found, text_too_long, no_text}
use Rattle.df_pexpr.proofs.text.whole.Goals as goal

pub returns-in-Stopped-clause-refused : goal.returns-in-Stopped-clause-refused
returns-in-Stopped-clause-refused c = λ r e t of.
    no_text c.args.production (map view c.args.tokens.now.all.items) c.in-Stopped.stop
    (record { is = rw (c.in-Stopped.is, c.deref.ensures.value) at c.in_ok-stop.ensures; few = few_tokens c.args.tokens.now.all.items (omega (arith, c.args.tokens.now.all.ok.0, c.args.tokens.now.all.ok.1, c.args.tokens.now.all.small)) }) t of

pub returns-then-found-len-clause-refused : goal.returns-then-found-len-clause-refused
returns-then-found-len-clause-refused c = λ r e t of.
    text_too_long c.args.production (map view c.args.tokens.now.all.items) (construction_of c.in-Built.found)
    (record { is = rw (c.in-Built.is, c.deref.ensures.value) at c.in_ok-stop.ensures; few = few_tokens c.args.tokens.now.all.items (omega (arith, c.args.tokens.now.all.ok.0, c.args.tokens.now.all.ok.1, c.args.tokens.now.all.small)) }) (omega (arith, c.if-found-len.true, c.len.ensures, length-map c.args.tokens.now.all.items view)) t of

pub only-requires : goal.only-requires
only-requires c =
    one_found c.args.production (map view c.args.tokens.now.all.items) 0 (construction_of c.in-Built.found) c.requires
    (record { is = rw (c.in-Built.is, c.deref.ensures.value) at c.in_ok-stop.ensures; few = few_tokens c.args.tokens.now.all.items (omega (arith, c.args.tokens.now.all.ok.0, c.args.tokens.now.all.ok.1, c.args.tokens.now.all.small)) })

pub returns-else-found-len-clause-whole : goal.returns-else-found-len-clause-whole
returns-else-found-len-clause-whole c =
    text_found c.args.production (map view c.args.tokens.now.all.items) (construction_of c.in-Built.found) _
    (record { is = rw (c.in-Built.is, c.deref.ensures.value) at c.in_ok-stop.ensures; few = few_tokens c.args.tokens.now.all.items (omega (arith, c.args.tokens.now.all.ok.0, c.args.tokens.now.all.ok.1, c.args.tokens.now.all.small)) }) c.only.ensures (omega (arith, c.if-found-len.false, c.len.ensures, length-map c.args.tokens.now.all.items view))

pub returns-in-Stopped-clause-place : goal.returns-in-Stopped-clause-place
returns-in-Stopped-clause-place c = λ r e.
    let same : c.syntax.result ≡ r = cc in
    record {
      stop = c.in-Stopped.stop;
      place = ap (λ (x : Refusal). x.pos) (sym same) ∙ rw c.deref-in-Stopped.ensures.value at c.syntax.ensures.pos;
      no_text = λ others few alike t of.
          stopped_there c.args.production (map view c.args.tokens.now.all.items) c.in-Stopped.stop
          (record { is = rw (c.in-Stopped.is, c.deref.ensures.value) at c.in_ok-stop.ensures; few = few_tokens c.args.tokens.now.all.items (omega (arith, c.args.tokens.now.all.ok.0, c.args.tokens.now.all.ok.1, c.args.tokens.now.all.small)) }) others (omega (arith, few)) alike t of;
    }

pub returns-then-found-len-clause-place : goal.returns-then-found-len-clause-place
returns-then-found-len-clause-place c = λ r e.
    let same : c.syntax-then-found-len.result ≡ r = cc in
    record {
      stop = c.in-Built.found.behind;
      place = ap (λ (x : Refusal). x.pos) (sym same) ∙ rw c.deref-then-found-len.ensures.value at c.syntax-then-found-len.ensures.pos;
      no_text = λ others few alike t of.
          ended_there c.args.production (map view c.args.tokens.now.all.items) (construction_of c.in-Built.found)
          (record { is = rw (c.in-Built.is, c.deref.ensures.value) at c.in_ok-stop.ensures; few = few_tokens c.args.tokens.now.all.items (omega (arith, c.args.tokens.now.all.ok.0, c.args.tokens.now.all.ok.1, c.args.tokens.now.all.small)) }) (omega (arith, c.if-found-len.true, c.len.ensures, length-map c.args.tokens.now.all.items view)) others (omega (arith, few)) alike t of;
    }
