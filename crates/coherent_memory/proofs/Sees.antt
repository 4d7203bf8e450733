-- Each thing shows the names that it has a weight for: objects, addresses, words, mutexes and threads.
use Rattle.std.proofs.Common.{◌≡◌, ℕ, Bool, true, false, Option, Some, None, refl, sym, ap, subst}
use Rattle.std.specs.Prelude.{◌==◌, ◌&&◌, is_some}
use Rattle.server_model.specs.Below.fr_base.declared.name.ObjNo.{ObjNo}
use Rattle.server_model.specs.Below.fr_base.declared.name.MutexNo.{MutexNo}
use Rattle.server_model.specs.Below.fr_base.declared.release.Released.{Released}
use Rattle.server_model.specs.Below.fr_base.declared.release.Released.TheVariants as released
use Rattle.server_model.specs.Below.heap_partition.declared.value.Owned.{Owned}
use Rattle.server_model.specs.Below.heap_partition.declared.value.Owned.TheVariants as owned
use Rattle.server_model.specs.Below.thread_state.declared.phase.Phase.{Phase}
use Rattle.server_model.specs.Below.thread_state.declared.phase.Phase.TheVariants as phase
use Rattle.server_model.specs.Below.join_home.Tasks.{TaskState, in_pair}
use Rattle.server_model.specs.Below.server_msgs.declared.message.Message.{Message}
use Rattle.server_model.specs.Below.server_msgs.declared.message.Message.TheVariants.{Drop, Dupped, Release}
use Rattle.coherent_memory.specs.Names.{one, if_so, same_mutex, boxes, mutex_values}
use Rattle.coherent_memory.specs.Things.{Spot, as_content, at_slot, holds, locks, lies, flies, vacant, retired, copied, uses, sent, stands, at_home, queued, noted}
use Rattle.coherent_memory.specs.Follow.{Standing}
use Rattle.coherent_memory.specs.Sight.{Sight}
use Rattle.coherent_memory.specs.Walking.{instr_of}
use Rattle.coherent_memory.specs.Weights.{cells, drops, owners, owned_object, dropped_object, objects, states, addresses, uses_of, users_of, kept_words, is_home_of, shares_of, shares_sent, released_mutex, shares_at_home, owned_share, released_share, sent_share, shared_mutexes}
use Rattle.coherent_memory.specs.Requests.{is_mutex, Answer, no_answer, whole_answer, half_answer, message_answer, noted_answer, halves, halves_to, halves_needed, answered, answered_threads, waits, Branch, half_noted, pair_notes, branch_places, pair_places, noted_branch, phase_branches, branches, locked_mutex}
use Rattle.coherent_memory.specs.Sharing.{contents, is_content_of, spot_mutex, some_mutex, held_mutexes}
use Rattle.coherent_memory.proofs.Shown.{Sees, Quiet}
use Rattle.coherent_memory.proofs.Names.{left_none, right_none, both_none, and_left, and_right, same_number, one_not, if_not, if_none, apart, other_number, other_object, other_mutex, same_mutexes, two, other_pair, same_pairs}

-- OBJECTS

pub cells_seen : Sees cells objects
cells_seen h o (lies s a c) z e = other_object h c.object o (left_none (h c.object) (owned_object h c.value) z) e
cells_seen h o (flies w c) z e = other_object h c.object o (left_none (h c.object) (owned_object h c.value) z) e
cells_seen h o _ z e = refl

owned_seen : (h : ObjNo → ℕ) (o : ObjNo) (v : Owned) → owned_object h v ≡ 0 → h o ≡ 1 → boxes o v ≡ 0
owned_seen h o (owned.Box p) z e = other_object h p.object o z e
owned_seen h o _ z e = refl

dropped_seen : (h : ObjNo → ℕ) (o : ObjNo) (m : Message) → dropped_object h m ≡ 0 → h o ≡ 1 → drops o m ≡ 0
dropped_seen h o (Drop w p) z e = other_object h p o z e
dropped_seen h o _ z e = refl

pub owners_seen : Sees owners objects
owners_seen h o (holds p v) z e = owned_seen h o v z e
owners_seen h o (lies s a c) z e = owned_seen h o c.value (right_none (h c.object) (owned_object h c.value) z) e
owners_seen h o (flies w c) z e = owned_seen h o c.value (right_none (h c.object) (owned_object h c.value) z) e
owners_seen h o (sent s m) z e = dropped_seen h o m z e
owners_seen h o _ z e = refl

owned_quiet : (h : ObjNo → ℕ) → ((o : ObjNo) → h o ≡ 0) → (v : Owned) → owned_object h v ≡ 0
owned_quiet h n (owned.Box p) = n p.object
owned_quiet h n _ = refl

dropped_quiet : (h : ObjNo → ℕ) → ((o : ObjNo) → h o ≡ 0) → (m : Message) → dropped_object h m ≡ 0
dropped_quiet h n (Drop w p) = n p
dropped_quiet h n _ = refl

pub objects_quiet : Quiet objects
objects_quiet h n (holds p v) = owned_quiet h n v
objects_quiet h n (lies s a c) = both_none (h c.object) (owned_object h c.value) (n c.object) (owned_quiet h n c.value)
objects_quiet h n (flies w c) = both_none (h c.object) (owned_object h c.value) (n c.object) (owned_quiet h n c.value)
objects_quiet h n (sent s m) = dropped_quiet h n m
objects_quiet h n _ = refl

-- ADDRESSES

pub states_seen : Sees states addresses
states_seen h at (lies s a c) z e = other_pair h s a at z e
states_seen h at (vacant s a next) z e = other_pair h s a at z e
states_seen h at (retired s a) z e = other_pair h s a at z e
states_seen h at _ z e = refl

pub addresses_quiet : Quiet addresses
addresses_quiet h n (lies s a c) = n (two s a)
addresses_quiet h n (vacant s a next) = n (two s a)
addresses_quiet h n (retired s a) = n (two s a)
addresses_quiet h n _ = refl

-- WORDS

pub uses_seen : Sees uses_of kept_words
uses_seen h at (uses s w) z e = other_pair h s w at z e
uses_seen h at _ z e = refl

pub users_seen : Sees users_of kept_words
users_seen h at (copied s c) z e = if_not (s == at.0 && c.word == at.1) c.users (λ q. apart h (two s c.word) at z e (same_pairs s c.word at q))
users_seen h at _ z e = refl

pub words_quiet : Quiet kept_words
words_quiet h n (uses s w) = n (two s w)
words_quiet h n (copied s c) = n (two s c.word)
words_quiet h n _ = refl

-- ANSWERS

answer_seen : (h : ℕ → ℕ) (t : ℕ) (a : Answer) → answered h a ≡ 0 → h t ≡ 1 → halves t a ≡ 0
answer_seen h t no_answer z e = refl
answer_seen h t (whole_answer u) z e = if_not (u == t) 2 (λ q. apart h u t z e (same_number u t q))
answer_seen h t (half_answer u) z e = other_number h u t z e

pub halves_seen : Sees halves_to answered_threads
halves_seen h t (sent r m) z e = answer_seen h t (message_answer m) z e
halves_seen h t (queued m r u) z e = answer_seen h t (whole_answer u) z e
halves_seen h t (noted r x) z e = answer_seen h t (noted_answer x.state) z e
halves_seen h t _ z e = refl

pub needs_seen : Sees halves_needed answered_threads
needs_seen h t (stands s p x) z e = if_not (x.number == t && waits x.phase) 2 (λ q. apart h x.number t z e (same_number x.number t (and_left (x.number == t) (waits x.phase) q)))
needs_seen h t _ z e = refl

answer_quiet : (h : ℕ → ℕ) → ((t : ℕ) → h t ≡ 0) → (a : Answer) → answered h a ≡ 0
answer_quiet h n no_answer = refl
answer_quiet h n (whole_answer u) = n u
answer_quiet h n (half_answer u) = n u

pub answers_quiet : Quiet answered_threads
answers_quiet h n (stands s p x) = n x.number
answers_quiet h n (sent r m) = answer_quiet h n (message_answer m)
answers_quiet h n (queued m r u) = n u
answers_quiet h n (noted r x) = answer_quiet h n (noted_answer x.state)
answers_quiet h n _ = refl

-- PAIRS

abbrev branch : ℕ → ℕ → ℕ → Branch
branch r p t = record { server = r; parent = p; thread = t }

same_branch : (r p t : ℕ) (b : Branch) → r ≡ b.server → p ≡ b.parent → t ≡ b.thread → branch r p t ≡ b
same_branch r p t b x y z = subst (λ u. branch r p t ≡ branch u b.parent b.thread) x (subst (λ u. branch r p t ≡ branch r u b.thread) y (ap (branch r p) z))

pub notes_seen : Sees pair_notes branches
notes_seen h b (noted r x) z e = by x.state z
  where
    by : (s : TaskState) → noted_branch h r x.thread s ≡ 0 → one ((r == b.server && x.thread == b.thread) && half_noted s b.parent) ≡ 0
    by (in_pair p over) z = one_not ((r == b.server && x.thread == b.thread) && (p == b.parent)) (λ q.
        let f : (r == b.server && x.thread == b.thread) ≡ true = and_left (r == b.server && x.thread == b.thread) (p == b.parent) q in
        apart h (branch r p x.thread) b z e
        (same_branch r p x.thread b (same_number r b.server (and_left (r == b.server) (x.thread == b.thread) f)) (same_number p b.parent (and_right (r == b.server && x.thread == b.thread) (p == b.parent) q))
        (same_number x.thread b.thread (and_right (r == b.server) (x.thread == b.thread) f))))
    by _ z = one_not ((r == b.server && x.thread == b.thread) && false) (λ q. let f : false ≡ true = and_right (r == b.server && x.thread == b.thread) false q in cc f)
notes_seen h b _ z e = refl

place_seen : (h : Branch → ℕ) (b : Branch) (r p t : ℕ) → h (branch r p t) ≡ 0 → h b ≡ 1 → r ≡ b.server → p ≡ b.parent → one (t == b.thread) ≡ 0
place_seen h b r p t z e x y = one_not (t == b.thread) (λ q. apart h (branch r p t) b z e (same_branch r p t b x y (same_number t b.thread q)))

places_seen_by : (h : Branch → ℕ) (b : Branch) (r p : ℕ) (s : Phase) → phase_branches h r p s ≡ 0 → h b ≡ 1 → r ≡ b.server → p ≡ b.parent → branch_places b.thread s ≡ 0
places_seen_by h b r p (phase.WaitPar u v) z e x y =
    both_none (one (u == b.thread)) (one (v == b.thread)) (place_seen h b r p u (left_none (h (branch r p u)) (h (branch r p v)) z) e x y)
    (place_seen h b r p v (right_none (h (branch r p u)) (h (branch r p v)) z) e x y)
places_seen_by h b r p _ z e x y = refl

at_test : (q : Bool) (n : ℕ) → (q ≡ true → n ≡ 0) → if_so q n ≡ 0
at_test true n f = f refl
at_test false n f = refl

pub places_seen : Sees pair_places branches
places_seen h b (stands r p x) z e =
    at_test (r == b.server && x.number == b.parent) (branch_places b.thread x.phase) (λ q.
    places_seen_by h b r x.number x.phase z e (same_number r b.server (and_left (r == b.server) (x.number == b.parent) q)) (same_number x.number b.parent (and_right (r == b.server) (x.number == b.parent) q)))
places_seen h b _ z e = refl

note_quiet : (h : Branch → ℕ) → ((b : Branch) → h b ≡ 0) → (r t : ℕ) (s : TaskState) → noted_branch h r t s ≡ 0
note_quiet h n r t (in_pair p over) = n (branch r p t)
note_quiet h n r t _ = refl

phase_quiet : (h : Branch → ℕ) → ((b : Branch) → h b ≡ 0) → (r p : ℕ) (s : Phase) → phase_branches h r p s ≡ 0
phase_quiet h n r p (phase.WaitPar u v) = both_none (h (branch r p u)) (h (branch r p v)) (n (branch r p u)) (n (branch r p v))
phase_quiet h n r p _ = refl

pub branches_quiet : Quiet branches
branches_quiet h n (noted r x) = note_quiet h n r x.thread x.state
branches_quiet h n (stands r p x) = phase_quiet h n r x.number x.phase
branches_quiet h n _ = refl

-- CONTENTS

spot_seen : (h : MutexNo → ℕ) (m : MutexNo) (p : Spot) → spot_mutex h p ≡ 0 → h m ≡ 1 → is_content_of m p ≡ 0
spot_seen h m (as_content n) z e = other_mutex h n m z e
spot_seen h m _ z e = refl

some_seen : (h : MutexNo → ℕ) (m : MutexNo) (n : Option MutexNo) → some_mutex h n ≡ 0 → h m ≡ 1 → one (is_mutex m n) ≡ 0
some_seen h m None z e = refl
some_seen h m (Some n) z e = one_not (same_mutex m n) (λ q. apart h n m z e (sym (same_mutexes m n q)))

gift_seen : (h : MutexNo → ℕ) (m : MutexNo) (q : Bool) (n : Option MutexNo) → if_so q (some_mutex h n) ≡ 0 → h m ≡ 1 → if_so q (one (is_mutex m n)) ≡ 0
gift_seen h m true n z e = some_seen h m n z e
gift_seen h m false n z e = refl

pub contents_seen : (s : Sight) → Sees (contents s) (held_mutexes s)
contents_seen s h m (holds p v) z e = spot_seen h m p z e
contents_seen s h m (locks (at_slot t i) n) z e = other_mutex h n m z e
contents_seen s h m (stands r p x) z e = let y : Standing = record { server = r; packed = p; thread = x } in gift_seen h m (is_some x.gift) (locked_mutex s y (instr_of s y)) z e
contents_seen s h m _ z e = refl

pub homes_seen : (s : Sight) → Sees is_home_of (held_mutexes s)
homes_seen s h m (at_home r n) z e = other_mutex h n.number m z e
homes_seen s h m _ z e = refl

spot_quiet : (h : MutexNo → ℕ) → ((m : MutexNo) → h m ≡ 0) → (p : Spot) → spot_mutex h p ≡ 0
spot_quiet h n (as_content m) = n m
spot_quiet h n _ = refl

some_quiet : (h : MutexNo → ℕ) → ((m : MutexNo) → h m ≡ 0) → (m : Option MutexNo) → some_mutex h m ≡ 0
some_quiet h n None = refl
some_quiet h n (Some m) = n m

pub held_quiet : (s : Sight) → Quiet (held_mutexes s)
held_quiet s h n (holds p v) = spot_quiet h n p
held_quiet s h n (locks (at_slot t i) m) = n m
held_quiet s h n (at_home r m) = n m.number
held_quiet s h n (stands r p x) = let y : Standing = record { server = r; packed = p; thread = x } in if_none (is_some x.gift) (some_mutex h (locked_mutex s y (instr_of s y))) (some_quiet h n (locked_mutex s y (instr_of s y)))
held_quiet s h n _ = refl

-- SHARES

share_seen : (h : MutexNo → ℕ) (m : MutexNo) (v : Owned) → owned_share h v ≡ 0 → h m ≡ 1 → mutex_values m v ≡ 0
share_seen h m (owned.Mutex n) z e = other_mutex h n m z e
share_seen h m _ z e = refl

release_seen : (h : MutexNo → ℕ) (m : MutexNo) (x : Released) → released_share h x ≡ 0 → h m ≡ 1 → released_mutex m x ≡ 0
release_seen h m (released.Mutex n) z e = other_mutex h n m z e
release_seen h m (released.Task t) z e = refl

sent_seen : (h : MutexNo → ℕ) (m : MutexNo) (x : Message) → sent_share h x ≡ 0 → h m ≡ 1 → shares_sent m x ≡ 0
sent_seen h m (Release x) z e = release_seen h m x z e
sent_seen h m (Dupped n t) z e = other_mutex h n m z e
sent_seen h m _ z e = refl

pub shares_seen : Sees shares_of shared_mutexes
shares_seen h m (holds p v) z e = share_seen h m v z e
shares_seen h m (lies s a c) z e = share_seen h m c.value z e
shares_seen h m (flies w c) z e = share_seen h m c.value z e
shares_seen h m (sent s x) z e = sent_seen h m x z e
shares_seen h m _ z e = refl

pub counts_seen : Sees shares_at_home shared_mutexes
counts_seen h m (at_home s n) z e = if_not (same_mutex n.number m) n.shares (λ q. apart h n.number m z e (same_mutexes n.number m q))
counts_seen h m _ z e = refl

share_quiet : (h : MutexNo → ℕ) → ((m : MutexNo) → h m ≡ 0) → (v : Owned) → owned_share h v ≡ 0
share_quiet h n (owned.Mutex m) = n m
share_quiet h n _ = refl

release_quiet : (h : MutexNo → ℕ) → ((m : MutexNo) → h m ≡ 0) → (x : Released) → released_share h x ≡ 0
release_quiet h n (released.Mutex m) = n m
release_quiet h n (released.Task t) = refl

sent_quiet : (h : MutexNo → ℕ) → ((m : MutexNo) → h m ≡ 0) → (x : Message) → sent_share h x ≡ 0
sent_quiet h n (Release x) = release_quiet h n x
sent_quiet h n (Dupped m t) = n m
sent_quiet h n _ = refl

pub shares_quiet : Quiet shared_mutexes
shares_quiet h n (holds p v) = share_quiet h n v
shares_quiet h n (lies s a c) = share_quiet h n c.value
shares_quiet h n (flies w c) = share_quiet h n c.value
shares_quiet h n (sent s x) = sent_quiet h n x
shares_quiet h n (at_home s m) = n m.number
shares_quiet h n _ = refl
