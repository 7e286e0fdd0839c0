use Rattle.std.proofs.Common.{◌≡◌, map, take, drop, true}
use Rattle.std.specs.List.{list_all}
use Rattle.df_nplain.specs.Plain as plain
use Rattle.df_nplain.specs.View.{plain_of}
use Rattle.df_nplain.specs.MethodView as plain_view
use Rattle.df_nmach.specs.Name.{is_name}
use Rattle.df_nmach.specs.View.{method_of}
use Rattle.df_nemit.specs.mirror.Emitting.{emit_method}
use Rattle.df_nemit.proofs.emission.emit.Given as goal

-- the methods so far have their code, and those that are left have names
abbrev pub invariant-loop-method : goal.invariant-loop-method
invariant-loop-method l = record {
  names : list_all (λ (m : plain.Method). is_name m.text) (map plain_view.method_of (drop l.method-index l.method-items)) ≡ true;
  made : map method_of l.methods.items ≡ map (emit_method (plain_of l.plain)) (map plain_view.method_of (take l.method-index l.method-items));
}
