-- ONE HOME, ONE OWNER, and the words that lead there (in the manner of DRust; colours and stale pointers are this project's rules).
-- Each function counts what breaks the sentence above it.
use Rattle.std.specs.Prelude.{ℕ, ◌+◌, ◌==◌, nat_lt, Bool, true, false, not, ◌&&◌, List, [], ◌∷◌, ◌++◌, Option, Some, None, is_some}
use Rattle.server_model.specs.Below.fr_base.declared.name.ObjNo.{ObjNo}
use Rattle.server_model.specs.Below.global_addr.Words.{colour_of, server_of, address_of}
use Rattle.server_model.specs.Below.heap_partition.declared.value.Cell.{Cell}
use Rattle.server_model.specs.Below.heap_partition.declared.value.Owned.{Owned}
use Rattle.server_model.specs.Below.heap_partition.declared.value.Owned.TheVariants as owned
use Rattle.server_model.specs.Below.mut_borrow.declared.mutable.MutRef.{MutRef}
use Rattle.server_model.specs.Below.thread_state.declared.value.Value.{Value}
use Rattle.server_model.specs.Below.thread_state.declared.value.Value.TheVariants as value
use Rattle.server_model.specs.Below.thread_state.declared.phase.Phase.{Phase}
use Rattle.server_model.specs.Below.thread_state.declared.phase.Phase.TheVariants as phase
use Rattle.server_model.specs.Below.server_msgs.declared.message.Message.{Message}
use Rattle.server_model.specs.Below.server_msgs.declared.message.Message.TheVariants.{Fetch, Fetched, Move, Drop}
use Rattle.coherent_memory.specs.Names.{tot, one, other, if_so, some, same_object, same_cell}
use Rattle.coherent_memory.specs.Things.{Location, in_cell, Thing, holds, shares, borrows, lies, flies, vacant, copied, uses, sent, stands}
use Rattle.coherent_memory.specs.Follow.{Ground, value_behind}
use Rattle.coherent_memory.specs.Stale.{Reference, references, is_among, is_held_at}
use Rattle.coherent_memory.specs.Sight.{Sight, Pointer, pointer_in, pointers_of, taken_pointers, is_stale, is_word, cell_of_word, is_object_among, word, issued}
use Rattle.coherent_memory.specs.Balances.{disagree, too_many, more_than_one}
use Rattle.coherent_memory.specs.Weights.{cells, owners, objects, states, below, addresses}

-- the sum over all things
abbrev pub sum_over : Sight → (Thing → ℕ) → ℕ
sum_over s f = tot f s.things

-- ONE HOME

abbrev pub has_cell : Sight → ObjNo → Bool
has_cell s o = some (tot (cells o) s.things)

-- each live object is the cell of exactly one address of one partition, or of exactly one `moved` message. (At most one cell of each object)
abbrev pub homes_wrong : Sight → ℕ
homes_wrong s = more_than_one cells objects s.things

-- ONE OWNER

-- each live object is named by exactly one box in a place that owns, or by exactly one `drop` message; and each of these names a live object. (As many
-- owners as cells of each object; copies and references own nothing)
abbrev pub owners_wrong : Sight → ℕ
owners_wrong s = disagree owners cells objects s.things

-- WORDS

-- all words of things, wherever they stand, with a weight
abbrev pub owned_word : (ℕ → ℕ) → Owned → ℕ
owned_word f (owned.Box p) = f p.word
owned_word f v = 0

abbrev pub message_word : (ℕ → ℕ) → Message → ℕ
message_word f (Fetch w o s t) = f w
message_word f (Fetched w c t) = f w + owned_word f c.value
message_word f (Move w o s t) = f w
message_word f (Drop w o) = f w
message_word f m = 0

abbrev pub phase_word : (ℕ → ℕ) → Phase → ℕ
phase_word f (phase.WaitCell w) = f w
phase_word f (phase.Taken w) = f w
phase_word f p = 0

abbrev pub words : (ℕ → ℕ) → Thing → ℕ
words f (holds p v) = owned_word f v
words f (shares l r) = f r.word
words f (borrows l r) = f r.word + f r.first
words f (lies r a c) = owned_word f c.value
words f (flies w c) = f w + owned_word f c.value
words f (copied r c) = f c.word + owned_word f c.cell.value
words f (uses r w) = f w
words f (sent r m) = message_word f m
words f (stands r p t) = phase_word f t.phase
words f x = 0

-- every word that stands anywhere was issued
abbrev pub issued_wrong : Sight → ℕ
issued_wrong s = sum_over s (words (λ w. other (issued s w)))

-- every word that stands anywhere has a colour below `colours`, and so is the next colour of a free address
abbrev pub next_colours : ℕ → Thing → ℕ
next_colours limit (vacant r a next) = other (nat_lt next limit)
next_colours limit x = 0

abbrev pub colours_wrong : Sight → ℕ
colours_wrong s = sum_over s (words (λ w. other (nat_lt (colour_of w) s.options.colours))) + sum_over s (next_colours s.options.colours)

-- all pointers to an object that aren't stale have the same word. (Boxes, references of either kind, the word of an object that was taken
-- for a mutable borrow, that of a `drop`, and the old word of an object under way; not those in copies)
abbrev pub other_word : Sight → Pointer → ℕ
other_word s p = other (is_word (word s p.object) p.word)

abbrev pub same_word_wrong : Sight → ℕ
same_word_wrong s = tot (other_word s) s.pointers

abbrev pub is_spot : ℕ → ℕ → Option ℕ → Bool
is_spot r a None = false
is_spot r a (Some w) = server_of w == r && address_of w == a

-- where the object doesn't fly, its word's server and address are its home
abbrev pub other_spot : Sight → Thing → ℕ
other_spot s (lies r a c) = other (is_spot r a (word s c.object))
other_spot s x = 0

abbrev pub homeward_wrong : Sight → ℕ
homeward_wrong s = sum_over s (other_spot s)

-- each address below its server's next one is live once, or free once, or retired, and no other address is anything; so a free or retired
-- address has no live object. (At most as many states of each address as it is below a next one; what is neither live nor free is retired)
abbrev pub states_wrong : Sight → ℕ
states_wrong s = too_many states below addresses s.things

abbrev pub is_first : MutRef → Option Value → Bool
is_first r (Some (value.Own (owned.Box p))) = r.first == p.word && same_object r.object p.object
is_first r (Some (value.Mut q)) = r.first == q.word && same_object r.object q.object
is_first r v = false

-- the `first` of a mutable reference is the word that stands at its holder, and that pointer is to the same object
abbrev pub other_first : Ground → Reference → ℕ
other_first g r = other (is_first r.reference (value_behind g r.holder))

abbrev pub first_wrong : Sight → ℕ
first_wrong s = tot (other_first s.ground) (references s.ground s.things)

abbrev pub is_word_of : Option ℕ → Option ℕ → Bool
is_word_of None v = false
is_word_of v None = false
is_word_of (Some w) (Some v) = w == v

-- different live objects have different words
abbrev pub same_words : Sight → Option ℕ → ObjNo → Thing → ℕ
same_words s w o (lies r a c) = one (not (same_object c.object o) && is_word_of (word s c.object) w)
same_words s w o (flies v c) = one (not (same_object c.object o) && is_word_of (word s c.object) w)
same_words s w o x = 0

abbrev pub shared_words : Sight → Thing → ℕ
shared_words s (lies r a c) = sum_over s (same_words s (word s c.object) c.object)
shared_words s (flies w c) = sum_over s (same_words s (word s c.object) c.object)
shared_words s x = 0

abbrev pub different_words_wrong : Sight → ℕ
different_words_wrong s = sum_over s (shared_words s)

-- a dirty mutable reference that isn't stale is not the pointer at the holder of a mutable reference, and each other pointer to its object is stale, but for
-- the old word of the object where it is under way; so no shared reference or view leads to the object, and no `drop` names it
abbrev pub held_by : Location → Reference → ℕ
held_by l r = one (is_held_at l r.holder)

-- the pointers of a thing, without the old word of an object under way
abbrev pub standing_of : Thing → List Pointer
standing_of (flies w c) = pointer_in (Some (in_cell c.object)) c.value
standing_of x = pointers_of x

abbrev pub standing_in : List Thing → List Pointer
standing_in [] = []
standing_in (x ∷ b) = standing_of x ++ standing_in b

abbrev pub standing_pointers : Sight → List Pointer
standing_pointers s = standing_in s.things ++ taken_pointers s.code s.ground s.ground.threads

abbrev pub fresh_beside : Sight → Reference → Pointer → ℕ
fresh_beside s r p = if_so (same_object p.object r.reference.object) (one (not (is_stale s.stale p.at) && not (is_held_at r.at p.at)))

abbrev pub not_alone : Sight → List Reference → Reference → ℕ
not_alone s rs r =
    if_so (r.reference.dirty && not (is_among r.at s.stale)) (tot (held_by r.at) rs + tot (fresh_beside s r) (standing_pointers s))

abbrev pub dirty_wrong : Sight → ℕ
dirty_wrong s = let rs = references s.ground s.things in tot (not_alone s rs) rs

-- where a mutable reference has another word than its first one, no pointer to its object has the first one again, but for stale ones
abbrev pub has_first : MutRef → Pointer → ℕ
has_first r p = if_so (same_object p.object r.object) (one (p.word == r.first))

abbrev pub first_again : List Pointer → Reference → ℕ
first_again ps r = if_so (not (r.reference.word == r.reference.first)) (tot (has_first r.reference) ps)

abbrev pub first_again_wrong : Sight → ℕ
first_again_wrong s = tot (first_again s.pointers) (references s.ground s.things)

-- COPIES

-- the present cell of the object whose word this is, where no dirty reference to it is alive that isn't stale
abbrev pub unless_dirty : Bool → Cell → Option Cell
unless_dirty true c = None
unless_dirty false c = Some c

abbrev pub if_clean : Sight → Option Cell → Option Cell
if_clean s None = None
if_clean s (Some c) = unless_dirty (is_object_among c.object s.dirty) c

abbrev pub clean_cell : Sight → ℕ → Option Cell
clean_cell s w = if_clean s (cell_of_word s.pointers s.ground.cells w)

abbrev pub other_cell : Cell → Option Cell → ℕ
other_cell c None = 0
other_cell c (Some d) = other (same_cell c d)

abbrev pub fetched_copy : Sight → Message → ℕ
fetched_copy s (Fetched w c t) = other_cell c (clean_cell s w)
fetched_copy s m = 0

-- a copy under the word of a live object, cached or in a `fetched` message, is the object's present cell, words included, where no dirty
-- reference to the object is alive that isn't stale
abbrev pub other_copy : Sight → Thing → ℕ
other_copy s (copied r c) = other_cell c.cell (clean_cell s c.word)
other_copy s (sent r m) = fetched_copy s m
other_copy s x = 0

abbrev pub copies_wrong : Sight → ℕ
copies_wrong s = sum_over s (other_copy s)

abbrev pub unclean_request : Sight → Message → ℕ
unclean_request s (Fetch w o r t) = other (is_some (clean_cell s w))
unclean_request s (Fetched w c t) = other (is_some (clean_cell s w))
unclean_request s m = 0

-- the word of a `fetch` or `fetched` message is such a word of a live object
abbrev pub unclean : Sight → Thing → ℕ
unclean s (sent r m) = unclean_request s m
unclean s x = 0

abbrev pub served_wrong : Sight → ℕ
served_wrong s = sum_over s (unclean s)
