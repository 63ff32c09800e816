-- What is sent piece by piece makes an array or an object.
use Rattle.std.proofs.Common.{◌≡◌, ℕ, ◌+◌, suc, List, [], ◌∷◌, ◌++◌, length, map, Option, Some, refl, sym, ap, ap₂, subst, ◌∙◌}
use Rattle.std.proofs.lemmas.List.{length-append}
use Rattle.serde.specs.Event.{Log, Logs, map_begins, map_ends, seq_begins, seq_ends, WritesEach, WritesSeq}
use Rattle.serde_json.specs.Data.{Data, string}
use Rattle.serde_json.specs.Events.{items_len, members_len, SendsItems, SendsMembers, SendsValue}
use Rattle.serde_json.specs.View.{items_of}
use Rattle.irv_base.specs.Names.{Id}
use Rattle.assertion_file.specs.Ids.{id_of, ids_of}
use Rattle.assertion_file.specs.Sent.{SendsMember, SendsNamed}
use Rattle.assertion_file.specs.Text.{array_of, draws_member, ids_value, members_of, number_member, object_of, order_member}

length-items : {X : Type 0} (f : X → Data) (xs : List X) → length xs ≡ items_len (items_of (map f xs))
length-items f [] = refl
length-items f (x ∷ xs) = ap suc (length-items f xs)

items_are_sent : {X : Type 0} (f : X → Data) (xs : List X) (first last new : Log) → WritesEach (λ x. SendsValue (f x)) xs first last → Logs last new seq_ends →
    SendsItems (items_of (map f xs)) first new
items_are_sent f [] first last new each ended = subst (λ log. Logs log new seq_ends) each ended
items_are_sent f (x ∷ xs) first last new each ended = (each.0, each.1, items_are_sent f xs each.0 last new each.2 ended)

pub array_is_sent : {X : Type 0} (f : X → Data) (xs : List X) (old new : Log) → WritesSeq (λ x. SendsValue (f x)) xs old new →
    SendsValue (array_of (map f xs)) old new
array_is_sent f xs old new sent = (
  sent.0,
  subst (λ n. Logs old sent.0 (seq_begins (Some n))) (length-items f xs) sent.2,
  items_are_sent f xs sent.0 sent.1 new sent.3 sent.4,
)

-- ---- candidates by their ids

abbrev pub SendsId : List Id → ℕ → Log → Log → Type 0
SendsId ids c = SendsValue (string (id_of ids c))

strings-ids : (ids : List Id) (cs : List ℕ) → map (λ c. string (id_of ids c)) cs ≡ map string (ids_of ids cs)
strings-ids ids [] = refl
strings-ids ids (c ∷ cs) = ap (λ rest. string (id_of ids c) ∷ rest) (strings-ids ids cs)

pub ids_are_sent : (ids : List Id) (cs : List ℕ) (old new : Log) → WritesSeq (SendsId ids) cs old new → SendsValue (ids_value (ids_of ids cs)) old new
ids_are_sent ids cs old new sent =
    subst (λ values. SendsValue (array_of values) old new) (strings-ids ids cs) (array_is_sent (λ c. string (id_of ids c)) cs old new sent)

-- ---- a value that is the same

pub sends-same : {d e : Data} (old new : Log) → d ≡ e → SendsValue d old new → SendsValue e old new
sends-same old new same sent = subst (λ value. SendsValue value old new) same sent

-- ---- members

pub sends-same-member : (name : List ℕ) {d e : Data} (old new : Log) → d ≡ e → SendsMember name d old new → SendsMember name e old new
sends-same-member name old new same sent = subst (λ value. SendsMember name value old new) same sent

members-length : (members : List (List ℕ × Data)) → members_len (members_of members) ≡ length members
members-length [] = refl
members-length (named ∷ members) = ap suc (members-length members)

-- one list after another
pub each-append : {X : Type 0} (w : X → Log → Log → Type 0) (xs ys : List X) (old mid new : Log) → WritesEach w xs old mid → WritesEach w ys mid new →
    WritesEach w (xs ++ ys) old new
each-append w [] ys old mid new h k = subst (λ log. WritesEach w ys log new) h k
each-append w (x ∷ xs) ys old mid new h k = (h.0, h.1, each-append w xs ys h.0 mid new h.2 k)

members_are_sent : (members : List (List ℕ × Data)) (first last new : Log) → WritesEach SendsNamed members first last → Logs last new map_ends →
    SendsMembers (members_of members) first new
members_are_sent [] first last new each ended = subst (λ log. Logs log new map_ends) each ended
members_are_sent (named ∷ members) first last new each ended = (each.1.0, each.0, each.1.1, each.1.2, members_are_sent members each.0 last new each.2 ended)

pub object_is_sent : (members : List (List ℕ × Data)) (n : ℕ) (old first last new : Log) → n ≡ length members → Logs old first (map_begins (Some n)) →
    WritesEach SendsNamed members first last →
    Logs last new map_ends → SendsValue (object_of members) old new
object_is_sent members n old first last new count begun each ended = (
  first,
  subst (λ m. Logs old first (map_begins (Some m))) (count ∙ sym (members-length members)) begun,
  members_are_sent members first last new each ended,
)

-- the draws of an assertion, and its other members
pub with_draws_sent : (draws : Option (Option ℕ)) (others : List (List ℕ × Data)) (n : ℕ) (old first mid last new : Log) →
    n ≡ length (draws_member draws) + length others →
    Logs old first (map_begins (Some n)) → WritesEach SendsNamed (draws_member draws) first mid → WritesEach SendsNamed others mid last →
    Logs last new map_ends → SendsValue (object_of (draws_member draws ++ others)) old new
with_draws_sent draws others n old first mid last new count begun one more ended =
    object_is_sent (draws_member draws ++ others) n old first last new (count ∙ sym (length-append (draws_member draws) others)) begun
    (each-append SendsNamed (draws_member draws) others first mid last one more) ended

-- the member of a number that is the same
pub members_same : (name : List ℕ) {m n : Option ℕ} (old new : Log) → m ≡ n → WritesEach SendsNamed (number_member name m) old new →
    WritesEach SendsNamed (number_member name n) old new
members_same name old new same sent = subst (λ number. WritesEach SendsNamed (number_member name number) old new) same sent

-- the member of an order that is the same, by ids that are the same
pub order_same : {ids more : List Id} {order same : Option (List ℕ)} (old new : Log) → ids ≡ more → order ≡ same →
    WritesEach SendsNamed (order_member ids order) old new → WritesEach SendsNamed (order_member more same) old new
order_same old new names orders sent = subst (λ members. WritesEach SendsNamed members old new) (ap₂ order_member names orders) sent
