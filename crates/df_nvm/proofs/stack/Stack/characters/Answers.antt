use Rattle.std.proofs.Common.{◌≡◌, ◌+◌, ◌-◌, ◌≤◌, length, take, drop, reverse, arith, ap, subst, ◌∙◌, length-drop, List}
use Rattle.std.proofs.lemmas.List.{length-reverse, take_all}
use Rattle.df_nmach.specs.Value as pure
use Rattle.df_nmach.specs.Step.{characters}
use Rattle.df_nmach.specs.View.{value_of, values_of}
use Rattle.df_nvm.specs.mirror.Turns.{Reads}
use Rattle.df_nvm.proofs.Lists.{length-map_of}
use Rattle.df_nvm.proofs.Values.{last_values}
use Rattle.df_nvm.proofs.stack.Stack.characters.Goals as goal

pub returns : goal.returns
returns c =
    let s = c.args.self.now in
    let f = s.base + s.locals in
    let start = c.len.result - c.args.count in
    let le : f + c.args.count ≤ length s.values.items = omega (arith, s.stands, length-map_of value_of s.values.items, length-reverse (drop f (values_of s.values.items)), length-drop f (values_of s.values.items), c.requires) in
    let shorter : length (drop start c.deref.result.now) ≤ length c.deref.result.now - start = omega (arith, length-drop start c.deref.result.now) in
    let part = take_all (length c.deref.result.now - start) (drop start c.deref.result.now) shorter ∙ ap (drop start) c.deref.ensures.value in
    subst (λ (l : List pure.Value). Reads c.characters.result (characters l)) (last_values f c.args.count start s.values.items _ le (omega arith) part) c.characters.ensures
