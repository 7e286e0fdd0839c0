-- Nodes with their keys: where a node stands, one more of them, fewer.
use Rattle.std.proofs.Common.{◌≡◌, ⊎_elim, ℕ, suc, Bool, true, false, cond, List, [], ◌∷◌, ◌++◌, take, length, slice_get, position, Option, None, Some, Vec, Global, refl, sym, ap, subst, ◌∙◌}
use Rattle.std.specs.Option.{option_map}
use Rattle.std.specs.Map.{keys_of}
use Rattle.std.proofs.lemmas.List.{map-append}
use Rattle.std.proofs.lemmas.Option.{slice_get-map, same_Some, none-some}
use Rattle.indexmap.specs.IndexMap.{insert_entry}
use Rattle.df_lemmas.proofs.Lists.{get_pushed}
use Rattle.df_lemmas.proofs.Options.{map_some, none_left}
use Rattle.df_form.specs.declared.key.Key.{Key}
use Rattle.df_form.specs.declared.node.Op.{Op}
use Rattle.df_form.specs.declared.node.Node as declared
use Rattle.df_form.specs.Node.{Node, node_of, number_of}
use Rattle.df_form.specs.Keyed.{node_in, nodes_in, AreKeyed}
use Rattle.df_form.proofs.Tables.{IsDistinct, number_of_some, number_of_none, number_of_at, not_found, get-take, distinct-append}
use Rattle.df_form.proofs.Fronts.{map_take}
use Rattle.df_form.proofs.Keys.{eq, equal, equal_back, position-at}

abbrev key_in : Key × declared.Node → Key
key_in entry = entry.0

-- the entry of a node
entry_at : (entries : List (Key × declared.Node)) (node : Node) (n : ℕ) → slice_get (nodes_in entries) n ≡ Some node → (entry : Key × declared.Node) × (slice_get entries n ≡ Some entry) × (node_in entry ≡ node)
entry_at entries node n at = map_some node_in (slice_get entries n) node (sym (slice_get-map node_in entries n) ∙ at)

-- the key of a node tells it
node_there : (entries : List (Key × declared.Node)) (lists : List (List ℕ)) (key : Key) (node : Node) (n : ℕ) (entry : Key × declared.Node) → AreKeyed entries lists → key.op ≡ node.op → slice_get lists key.list ≡ Some node.parts → slice_get entries n ≡ Some entry → entry.0 ≡ key → slice_get (nodes_in entries) n ≡ Some node
node_there entries lists key node n entry keyed op_is parts_is at same =
    let op : entry.1.op ≡ node.op = sym (keyed.op n entry at) ∙ ap (λ (k : Key). k.op) same ∙ op_is in
    let parts : entry.1.parts.items ≡ node.parts = same_Some entry.1.parts.items node.parts (sym (keyed.parts n entry at) ∙ ap (λ (k : Key). slice_get lists k.list) same ∙ parts_is) in
    let is : node_in entry ≡ node = λ i. record { op = op i; parts = parts i } in
    slice_get-map node_in entries n ∙ ap (option_map node_in) at ∙ ap Some is

-- a node of this operation and of the list of this number has this key
key_there : (entries : List (Key × declared.Node)) (lists : List (List ℕ)) (key : Key) (node : Node) (n : ℕ) (entry : Key × declared.Node) → AreKeyed entries lists → key.op ≡ node.op → ((other : ℕ) → slice_get lists other ≡ Some node.parts → other ≡ key.list) → slice_get entries n ≡ Some entry → node_in entry ≡ node → key ≡ entry.0
key_there entries lists key node n entry keyed op_is only at is =
    let op : entry.0.op ≡ node.op = keyed.op n entry at ∙ ap (λ (x : Node). x.op) is in
    let number : entry.0.list ≡ key.list = only entry.0.list (keyed.parts n entry at ∙ ap (λ (x : Node). Some x.parts) is) in
    λ i. record { op = (op_is ∙ sym op) i; list = sym number i }

-- a search for the key finds the node
pub found-by_key : (entries : List (Key × declared.Node)) (lists : List (List ℕ)) (key : Key) (node : Node) → AreKeyed entries lists → key.op ≡ node.op → slice_get lists key.list ≡ Some node.parts → ((other : ℕ) → slice_get lists other ≡ Some node.parts → other ≡ key.list) → position (eq key) (keys_of entries) ≡ number_of (nodes_in entries) node
found-by_key entries lists key node keyed op_is there only = by (position (eq key) (keys_of entries)) refl
  where
    by : (r : Option ℕ) → position (eq key) (keys_of entries) ≡ r → r ≡ number_of (nodes_in entries) node
    by (Some n) e =
        let found = position-at (eq key) (keys_of entries) n e in
        let entry = map_some key_in (slice_get entries n) found.0 (sym (slice_get-map key_in entries n) ∙ found.1) in
        let same : entry.0.0 ≡ key = entry.2 ∙ sym (equal key found.0 found.2) in
        sym (number_of_at (nodes_in entries) node n keyed.distinct (node_there entries lists key node n entry.0 keyed op_is there entry.1 same))
    by None e = sym (none_left (number_of (nodes_in entries) node) (λ m is.
        let entry = entry_at entries node m (number_of_some (nodes_in entries) node m is) in
        let same = key_there entries lists key node m entry.0 keyed op_is only entry.1 entry.2 in
        not_found (eq key) (keys_of entries) m entry.0.0 e (slice_get-map key_in entries m ∙ ap (option_map key_in) entry.1) (equal_back key entry.0.0 same)))

-- where there is no list of the parts the node is none of them
pub not_by-list : (entries : List (Key × declared.Node)) (lists : List (List ℕ)) (node : Node) → AreKeyed entries lists → ((n : ℕ) → slice_get lists n ≡ Some node.parts → ⊥) → None ≡ number_of (nodes_in entries) node
not_by-list entries lists node keyed none = sym (none_left (number_of (nodes_in entries) node) (λ m is.
    let entry = entry_at entries node m (number_of_some (nodes_in entries) node m is) in
    none entry.0.0.list (keyed.parts m entry.0 entry.1 ∙ ap (λ (x : Node). Some x.parts) entry.2)))

-- no nodes, fewer nodes, more lists
keyed-nothing : (lists : List (List ℕ)) → AreKeyed [] lists
keyed-nothing lists = record {
  op = λ n entry at. absurd (none-some entry at);
  parts = λ n entry at. absurd (none-some entry at);
  distinct = λ m n node at_m at_n. absurd (none-some node at_m);
}

pub keyed-none : (entries : List (Key × declared.Node)) (lists : List (List ℕ)) → entries ≡ [] → AreKeyed entries lists
keyed-none entries lists none = subst (λ es. AreKeyed es lists) (sym none) (keyed-nothing lists)

inside_take : (entries : List (Key × declared.Node)) (k n : ℕ) (node : Node) → slice_get (nodes_in (take k entries)) n ≡ Some node → slice_get (nodes_in entries) n ≡ Some node
inside_take entries k n node at = (get-take (nodes_in entries) k n node (ap (λ nodes. slice_get nodes n) (sym (map_take node_in k entries)) ∙ at)).1

pub keyed-take : (entries : List (Key × declared.Node)) (lists : List (List ℕ)) (k : ℕ) → AreKeyed entries lists → AreKeyed (take k entries) lists
keyed-take entries lists k keyed = record {
  op = λ n entry at. keyed.op n entry (get-take entries k n entry at).1;
  parts = λ n entry at. keyed.parts n entry (get-take entries k n entry at).1;
  distinct = λ m n node at_m at_n. keyed.distinct m n node (inside_take entries k m node at_m) (inside_take entries k n node at_n);
}

pub keyed-more : (entries : List (Key × declared.Node)) (lists more : List (List ℕ)) → AreKeyed entries lists → take (length lists) more ≡ lists → AreKeyed entries more
keyed-more entries lists more keyed kept = record {
  op = keyed.op;
  parts = λ n entry at. (get-take more (length lists) entry.0.list entry.1.parts.items (ap (λ ls. slice_get ls entry.0.list) kept ∙ keyed.parts n entry at)).1;
  distinct = keyed.distinct;
}

-- one more node
keyed-append : (entries : List (Key × declared.Node)) (lists : List (List ℕ)) (key : Key) (node : declared.Node) → AreKeyed entries lists → key.op ≡ node.op → slice_get lists key.list ≡ Some node.parts.items → number_of (nodes_in entries) (node_of node) ≡ None → AreKeyed (entries ++ (key, node) ∷ []) lists
keyed-append entries lists key node keyed op_is parts_is new = record {
  op = λ n entry at. ⊎_elim (λ before. keyed.op n entry before) (λ here. subst (λ (e : Key × declared.Node). e.0.op ≡ e.1.op) here.1 op_is) (get_pushed entries (key, node) n entry at);
  parts = λ n entry at. ⊎_elim (λ before. keyed.parts n entry before) (λ here. subst (λ (e : Key × declared.Node). slice_get lists e.0.list ≡ Some e.1.parts.items) here.1 parts_is) (get_pushed entries (key, node) n entry at);
  distinct = subst IsDistinct (sym (map-append node_in entries ((key, node) ∷ []))) (distinct-append (nodes_in entries) (node_of node) keyed.distinct new);
}

-- a key that none of them has goes last
insert_last : (entries : List (Key × declared.Node)) (key : Key) (node : declared.Node) → ((n : ℕ) (entry : Key × declared.Node) → slice_get entries n ≡ Some entry → entry.0 ≡ key → ⊥) → insert_entry eq entries key node ≡ entries ++ (key, node) ∷ []
insert_last [] key node none = refl
insert_last (e ∷ es) key node none = by (eq key e.0) refl (insert_last es key node (λ n entry at same. none (suc n) entry at same))
  where
    by : (b : Bool) → eq key e.0 ≡ b → insert_entry eq es key node ≡ es ++ (key, node) ∷ [] → insert_entry eq (e ∷ es) key node ≡ e ∷ (es ++ (key, node) ∷ [])
    by true h rest = absurd (none 0 e refl (sym (equal key e.0 h)))
    by false h rest = ap (λ b. cond b ((e.0, node) ∷ es) (e ∷ insert_entry eq es key node)) h ∙ ap (λ others. e ∷ others) rest

pub keyed-pushed : (entries after : List (Key × declared.Node)) (lists more : List (List ℕ)) (op : Op) (list : ℕ) (parts : List ℕ) (own : Vec ℕ Global) → AreKeyed entries lists → number_of (nodes_in entries) (record { op = op; parts = parts }) ≡ None → take (length lists) more ≡ lists → slice_get more list ≡ Some parts → own.items ≡ parts → after ≡ insert_entry eq entries (record { op = op; list = list }) (record { op = op; parts = own })
    → AreKeyed after more × (nodes_in after ≡ nodes_in entries ++ (record { op = op; parts = parts }) ∷ [])
keyed-pushed entries after lists more op list parts own keyed new kept there is inserted =
    let key : Key = record { op = op; list = list } in
    let code : declared.Node = record { op = op; parts = own } in
    let node : Node = record { op = op; parts = parts } in
    let same : node_of code ≡ node = λ i. record { op = op; parts = is i } in
    let now : AreKeyed entries more = keyed-more entries lists more keyed kept in
    let whole : after ≡ entries ++ (key, code) ∷ [] = inserted ∙ insert_last entries key code (λ n entry at key_is. number_of_none (nodes_in entries) node n new (node_there entries more key node n entry now refl there at key_is)) in
    let all = keyed-append entries more key code now refl (there ∙ ap Some (sym is)) (subst (λ (x : Node). number_of (nodes_in entries) x ≡ None) (sym same) new) in
    (subst (λ es. AreKeyed es more) (sym whole) all, ap nodes_in whole ∙ map-append node_in entries ((key, code) ∷ []) ∙ (λ i. nodes_in entries ++ same i ∷ []))
