-- A step lets go of an owned value: a box's object is condemned, and a mutex value or a task is let go; and main may end with it.
use Rattle.std.proofs.Common.{◌≡◌, ⊎_elim, inl, ℕ, ◌+◌, ◌≤◌, ◌==◌, ◌&&◌, Bool, true, false, if◌then◌else◌, List, [], ◌∷◌, Option, Some, None, is_none, refl, sym, ap, ap₂, ◌∙◌, arith}
use Rattle.law_words_ends.specs.Below.fr_base.declared.name.MutexNo.{MutexNo}
use Rattle.law_words_ends.specs.Below.fr_base.declared.name.ObjNo.{ObjNo}
use Rattle.law_words_ends.specs.Below.fr_base.declared.label.Label.{Label}
use Rattle.law_words_ends.specs.Below.fr_base.declared.label.Plain.{Plain}
use Rattle.law_words_ends.specs.Below.fr_base.declared.release.Released.{Released}
use Rattle.law_words_ends.specs.Below.fr_base.declared.release.Released.TheVariants as released
use Rattle.law_words_ends.specs.Below.fr_base.declared.step.Fresh.TheVariants as fresh
use Rattle.law_words_ends.specs.Below.global_addr.Words.{server_of}
use Rattle.law_words_ends.specs.Below.heap_partition.declared.value.BoxPtr.{BoxPtr}
use Rattle.law_words_ends.specs.Below.heap_partition.declared.value.Owned.{Owned}
use Rattle.law_words_ends.specs.Below.heap_partition.declared.value.Owned.TheVariants as owned
use Rattle.law_words_ends.specs.Below.thread_state.View.{ThreadState, is_over}
use Rattle.law_words_ends.specs.Below.server_msgs.declared.message.Message.{Message}
use Rattle.law_words_ends.specs.Below.server_msgs.declared.message.Message.TheVariants as message
use Rattle.law_words_ends.specs.Below.journal.View.{EntryView}
use Rattle.law_words_ends.specs.Below.journal.declared.act.Act.{Act}
use Rattle.law_words_ends.specs.Below.journal.declared.act.Act.TheVariants as act
use Rattle.law_words_ends.specs.Below.server_model.Servers.{Server, Cluster, server_at}
use Rattle.law_words_ends.specs.Below.server_model.Work.{Hand, working, thread_in}
use Rattle.law_words_ends.specs.Below.server_model.Places.{owns_nothing}
use Rattle.law_words_ends.specs.Below.server_model.Drop.{give_up, home_of as task_home}
use Rattle.law_entries_variables.specs.Below.coloured_heap.Heap.{Place, Living, Copied, Wish, Running, Coloured}
use Rattle.law_words_ends.specs.Below.coherent_memory.Names.{tot, one, same_object, Among}
use Rattle.law_words_ends.specs.Below.coherent_memory.Things.{Spot, Thing, holds, sent, stands, things_of}
use Rattle.law_words_ends.specs.Below.coherent_memory.Sight.{Pointer, pointers_in, taken_pointers, sight}
use Rattle.law_words_ends.specs.Below.coherent_memory.Naming.{threads, named_mutexes, started_at, made_at}
use Rattle.law_words_ends.specs.Below.coherent_memory.Weights.{is_thread}
use Rattle.law_words_ends.specs.Below.coherent_memory.Words.{HasWords}
use Rattle.law_words_ends.specs.Below.coherent_memory.OneHeap.{is_given_thread}
use Rattle.law_words_ends.specs.Below.coherent_memory.Colours.{StandsColoured, living_of, running_of, has_finished}
use Rattle.law_words_ends.specs.Below.coherent_memory.Coherent.{IsSound}
use Rattle.law_words_ends.proofs.Below.coherent_memory.Names.{and_left, and_right, same_number}
use Rattle.law_words_ends.proofs.Below.coherent_memory.Words.{named as object_named}
use Rattle.law_words_ends.proofs.Below.law_words_paths.paths.Origins.{among_first}
use Rattle.law_words_ends.proofs.Below.law_words_kept.reads.Flights.{found, truly}
use Rattle.law_entries_variables.specs.Below.law_heap_still.events.Shows.{ShownThread}
use Rattle.law_entries_variables.proofs.Below.law_heap_still.events.Tests.{numbers, objects}
use Rattle.law_entries_variables.proofs.Below.law_heap_still.events.Told.{told, at_thread}
use Rattle.law_words_ends.specs.Below.law_words_paths.words.Unmoved.{WordsStay, LeavesWords}
use Rattle.law_words_ends.proofs.Below.law_words_paths.words.Standing.{pointers_among}
use Rattle.law_entries_variables.specs.deliveries.Entries.{LeadsOn}
use Rattle.law_entries_variables.proofs.deliveries.Answers.{Answers, answers_of, Fits, fits, Agrees, Allowed, is_told, condemning, condemn_allowed, let_go_allowed}
use Rattle.law_entries_variables.proofs.deliveries.Weighed.{Seen}
use Rattle.law_entries_variables.proofs.deliveries.Shown.{placed_in, dropped_by, copy_in, served_in, wished_in, holder_by, runs, there_in}
use Rattle.law_entries_variables.proofs.deliveries.Live.{issued_by, living_still, issued_still}
use Rattle.law_entries_variables.proofs.deliveries.GiveUp.{place_of, lives_so, living_so, give_news, give_acts, gives_turns}
use Rattle.law_entries_variables.proofs.deliveries.Changed.{AreThere, turns_none}
use Rattle.law_entries_variables.proofs.deliveries.After.{Follows, copy_still, served_still, wishes_still, started_still, running_then, ended_by, made_still, there_less}
use Rattle.law_entries_variables.proofs.deliveries.Runs.{Runs, runs_none, runs_one}
use Rattle.law_entries_variables.proofs.deliveries.Applied.{server_there}
use Rattle.law_entries_variables.proofs.still.Kept.{masked_of}
use Rattle.law_entries_variables.proofs.still.Settled.{none_held}
use Rattle.law_entries_variables.proofs.variables.Turning.{loud, Turning, worked}
use Rattle.law_entries_variables.proofs.variables.Holders.{gifted, Others, holder_still}
use Rattle.law_entries_variables.proofs.variables.Led.{done_entry, done_leads, Steps}
use Rattle.law_entries_variables.proofs.variables.Aside.{only, one_changes}
use Rattle.law_entries_variables.proofs.variables.Quiets.{names_none, running_here, it_runs, runs_on}
use Rattle.law_entries_variables.proofs.variables.Counts.{thread_given, mutex_given}
use Rattle.law_entries_variables.proofs.variables.Finishes.{resting, rest_fits, rests_then, main_then}

-- a message that no answer sees but who was given up
record Beside (k : Cluster) (news : List Thing) : Type 0 where
  objects : (o : ObjNo) (g : Plain × Place → ℕ) → tot (λ x. told g (placed_in o x)) news ≡ 0
  copies : (r w : ℕ) (g : Copied → ℕ) → tot (λ x. told g (copy_in r w x)) news ≡ 0
  served : (a : Copied) → tot (served_in a) news ≡ 0
  issued : (h : ObjNo → ℕ) (n w : ℕ) → tot (issued_by h n w) news ≡ 0
  wishes : (a : Wish) → tot (wished_in a) news ≡ 0
  started : (s n : ℕ) → tot (started_at s n) news ≡ 0
  made : (s n : ℕ) → tot (made_at s n) news ≡ 0
  threads : (t : ℕ) → tot (is_thread t) news ≡ 0
  running : (t : ℕ) (g : Running → ℕ) → tot (runs g t) news ≡ 0
  there : (m : MutexNo) → tot (there_in m) news ≡ 0
  holders : (m : MutexNo) (g : ℕ → ℕ) → tot (λ x. told g (holder_by (sight k) m x)) news ≡ 0
  slots : (h : ShownThread → ℕ) (t : ℕ) → tot (at_thread (λ v. h (masked_of v)) t) news ≡ 0
  gifts : (mine : ℕ → Bool) → tot (gifted mine) news ≡ 0

beside_none : (k : Cluster) → Beside k []
beside_none k = record { objects = λ o g. refl; copies = λ r w g. refl; served = λ a. refl; issued = λ h n w. refl; wishes = λ a. refl; started = λ s n. refl; made = λ s n. refl; threads = λ t. refl; running = λ t g. refl; there = λ m. refl; holders = λ m g. refl; slots = λ h t. refl; gifts = λ i. refl }

beside_release : (k : Cluster) (r : ℕ) (x : Released) → Beside k (sent r (message.Release x) ∷ [])
beside_release k r x = record { objects = λ o g. refl; copies = λ i w g. refl; served = λ a. refl; issued = λ h n w. refl; wishes = λ a. refl; started = λ s n. refl; made = λ s n. refl; threads = λ t. refl; running = λ t g. refl; there = λ m. refl; holders = λ m g. refl; slots = λ h t. refl; gifts = λ i. refl }

beside_drop : (k : Cluster) (r w : ℕ) (p : ObjNo) → Beside k (sent r (message.Drop w p) ∷ [])
beside_drop k r w p = record { objects = λ o g. refl; copies = λ i v g. refl; served = λ a. refl; issued = λ h n v. refl; wishes = λ a. refl; started = λ s n. refl; made = λ s n. refl; threads = λ t. refl; running = λ t g. refl; there = λ m. refl; holders = λ m g. refl; slots = λ h t. refl; gifts = λ i. refl }

-- WORDS

-- the message of a box that is given up
abbrev drop_of : BoxPtr → Thing → ℕ
drop_of b (sent r (message.Drop w p)) = one ((w == b.word) && same_object p b.object)
drop_of b x = 0

drop_seen : (b : BoxPtr) → Seen (drop_of b)
drop_seen b = record { held = λ p v. refl; shared = λ l q. refl; lent = λ l q. refl; flown = λ v c. refl; used = λ r v. refl; loose = λ u i o. refl; counted = λ r d q s o e. refl; unused = λ i d u. refl }

-- it names the word that its object has then, as no place is a message's
drop_names : (c : Cluster) (after : HasWords (sight c)) (b : BoxPtr) → 1 ≤ tot (drop_of b) (things_of c) → after.word b.object ≡ b.word
drop_names c after b l = let f = found (drop_of b) (things_of c) l in by f.0 f.1 f.2
  where
    message_is : (r : ℕ) (m : Message) → Among (sent r m) (things_of c) → 1 ≤ drop_of b (sent r m) → after.word b.object ≡ b.word
    message_is r (message.Drop w p) m d =
        let both : ((w == b.word) && same_object p b.object) ≡ true = truly ((w == b.word) && same_object p b.object) d in
        let word_so : w ≡ b.word = same_number w b.word (and_left (w == b.word) (same_object p b.object) both) in
        let object_so : p ≡ b.object = object_named p b.object (and_right (w == b.word) (same_object p b.object) both) in
        let q : Pointer = record { at = None; word = w; object = p } in
        let among = among_first q (pointers_in (things_of c)) (taken_pointers (sight c).code (sight c).ground (sight c).ground.threads) (pointers_among q (sent r (message.Drop w p)) (things_of c) m (inl refl)) in
        ⊎_elim (λ h. absurd h) (λ (h : w ≡ after.word p). ap after.word (sym object_so) ∙ sym h ∙ word_so) (after.same q among)
    message_is r _ m d = absurd (omega (arith, d))

    by : (x : Thing) → Among x (things_of c) → 1 ≤ drop_of b x → after.word b.object ≡ b.word
    by (sent r m) h d = message_is r m h d
    by _ h d = absurd (omega (arith, d))

-- THE STEP

-- what is let go is told
pub told_of : (s : Server) (y : ThreadState) (h : Hand) (v : Owned) → Turning s y [] [] [] h → Turning s y [] (give_news v) (give_acts v) (working (give_up v) h)
told_of s y h v t = worked s y [] [] [] h t (give_up v h.work) [] (give_news v) (give_acts v) (gives_turns h.work [] [] [] h.work v (turns_none h.work))

-- it stands there, or owns nothing
pub data Given (k : Cluster) (v : Owned) : Type 0 where
  from : (p : Spot) → AreThere k (holds p v ∷ []) → Given k v
  nothing : owns_nothing v ≡ true → Given k v

module _ (k : Cluster) (sound : IsSound k) (number : ℕ) (s : Server) (here : server_at k.servers number ≡ Some s) (c0 : Coloured) (is_coloured : StandsColoured k c0) (y : ThreadState) (at : thread_in s.threads y.number ≡ Some y) (live : is_over y.phase ≡ false) (bare : y.gift ≡ None)
    (over : Bool) (main : over ≡ true → (y.number == 0) ≡ true) where
  abbrev n : ℕ
  n = s.rest.number

  abbrev t : ℕ
  t = y.number

  abbrev q0 : Answers
  q0 = answers_of (sight k)

  -- main may run no more
  abbrev left : Answers → Answers
  left q = record q { running = if over then resting t q.running else q.running }

  left_fits : (q : Answers) (c : Coloured) → Fits q c → Fits (left q) c
  left_fits q c h = by over
    where
      by : (b : Bool) → Fits (record q { running = if b then resting t q.running else q.running }) c
      by true = rest_fits q c t h
      by false = h

  allowed_left : (e : EntryView) (a : Act) (q : Answers) → Allowed k.options e c0 a q → Allowed k.options e c0 a (left q)
  allowed_left e a q h = record { allowed = h.allowed; fits = left_fits q _ h.fits }

  module _ (c : Cluster) (z : ThreadState) (named : z.number ≡ t) (free : z.gift ≡ None) (on : is_over z.phase ≡ over) (news : List Thing) (f : Follows k c (stands n false y ∷ []) (stands n false z ∷ news)) (words : LeavesWords k c) (b : Beside k news) where
    abbrev olds : List Thing
    olds = stands n false y ∷ []

    abbrev all : List Thing
    all = stands n false z ∷ news

    runs_left : (u : ℕ) (g : Running → ℕ) → told g ((left q0).running u) + runs g u (stands n false y) ≡ told g (running_of (sight k) u) + runs g u (stands n false z)
    runs_left u g = by over refl on
      where
        by : (d : Bool) → over ≡ d → is_over z.phase ≡ d → told g ((if d then resting t (running_of (sight k)) else running_of (sight k)) u) + runs g u (stands n false y) ≡ told g (running_of (sight k) u) + runs g u (stands n false z)
        by true is e = rests_then k sound number s here c0 is_coloured y at live z named e u g
        by false is e = let same = runs_on k sound number s here c0 is_coloured y at live z named e u g in omega (arith, same)

    threads_same : (u : ℕ) → tot (is_thread u) olds ≡ tot (is_thread u) all
    threads_same u = let same : one (z.number == u) ≡ one (y.number == u) = ap (λ i. one (i == u)) named in omega (arith, same, b.threads u)

    started : (u : ℕ) → is_given_thread (sight k) u ≡ is_given_thread (sight c) u
    started = started_still k c olds all sound f (λ r i. let none = b.started r i in omega (arith, none))

    running : (u : ℕ) → (left q0).running u ≡ running_of (sight c) u
    running u = running_then k c olds all sound f threads_same u ((left q0).running u) (λ g. omega (arith, runs_left u g, b.running u g))

    ended : (u : ℕ) → has_finished (sight k) u ≡ has_finished (sight c) u
    ended = by over refl running
      where
        by : (d : Bool) → over ≡ d → ((u : ℕ) → (if d then resting t (running_of (sight k)) else running_of (sight k)) u ≡ running_of (sight c) u) → (u : ℕ) → has_finished (sight k) u ≡ has_finished (sight c) u
        by true is r u = main_then k sound number s here c0 is_coloured y at live c started r (main is) u
        by false is r u = ended_by k c started (λ i. ap is_none (r i)) u

    others : Others k c olds all (only t)
    others = one_changes k c sound number s here y at z named free [] news f (λ o g. sym (b.objects o g)) (λ i. sym (b.threads i)) (λ h i. sym (b.slots h i)) (sym (b.gifts (only t)))

    -- with these objects
    all_left : (living : ObjNo → Option Living) → ((o : ObjNo) → living o ≡ living_of (sight c) o) → Agrees (record (left q0) { object = living }) (answers_of (sight c))
    all_left living objects = record {
      object = objects;
      copy = λ r w. copy_still k c olds all sound f r w (λ g. let none = b.copies r w g in omega (arith, none));
      served = λ a. served_still k c olds all sound f a (let none = b.served a in omega (arith, none));
      issued = λ w. issued_still k c olds all f.things f.options sound.words.have_words (words.words sound.words.have_words) w (let none = b.issued sound.words.have_words.word k.options.colours w in omega (arith, none));
      started = started;
      running = running;
      ended = ended;
      wishes = λ a. wishes_still k c olds all sound f a (let none = b.wishes a in omega (arith, none));
      made = made_still k c olds all sound f (λ r i. let none = b.made r i in omega (arith, none));
      there = λ m. there_less k c olds all sound f m (let none = b.there m in omega (arith, none));
      holder = λ m. holder_still k c olds all sound f (only t) others m (λ g. omega (arith, b.holders m g, none_held k sound number s here c0 is_coloured t y at live y bare m g, none_held k sound number s here c0 is_coloured t y at live z free m g));
    }

    -- where no object is given up
    same_objects : ((o : ObjNo) → tot (dropped_by o) news ≡ 0) → (o : ObjNo) → living_of (sight k) o ≡ living_of (sight c) o
    same_objects drops o =
        living_still k c olds all f.things sound.one_home.home_of_each sound.words.have_words (words.words sound.words.have_words) o (λ g. let none = b.objects o g in omega (arith, none)) (let none = drops o in omega (arith, none))

  -- the entry of what is let go
  abbrev Leads : Owned → Type 0
  Leads v = (c : Cluster) (z : ThreadState) → z.number ≡ t → z.gift ≡ None → is_over z.phase ≡ over → Follows k c (stands n false y ∷ []) (stands n false z ∷ give_news v) → LeavesWords k c → (ls : List Label) → tot loud ls ≡ 0 → LeadsOn k.options (done_entry n t fresh.None (give_acts v) ls) c0 c

  its : Fits q0 c0
  its = fits (sight k) c0 is_coloured

  ends_so : (acts : List Act) (ls : List Label) (c : Cluster) (q : Answers) → tot loud ls ≡ 0 → Runs k.options (done_entry n t fresh.None acts ls) acts c0 q → Agrees q (answers_of (sight c)) → LeadsOn k.options (done_entry n t fresh.None acts ls) c0 c
  ends_so acts ls c q quiet u a =
      done_leads k.options n t fresh.None acts ls c0 q0 q q c quiet its (server_there k sound number s here).0 (running_here k sound number s here c0 is_coloured y at live) (it_runs k sound number s here c0 is_coloured y at live) (numbers.itself n) u (names_none n t acts ls q) a

  nothing_goes : (c : Cluster) (z : ThreadState) → z.number ≡ t → z.gift ≡ None → is_over z.phase ≡ over → Follows k c (stands n false y ∷ []) (stands n false z ∷ []) → LeavesWords k c → (ls : List Label) → tot loud ls ≡ 0 → LeadsOn k.options (done_entry n t fresh.None [] ls) c0 c
  nothing_goes c z named free on f words ls quiet =
      ends_so [] ls c (left q0) quiet (runs_none k.options (done_entry n t fresh.None [] ls) c0 (left q0) (left_fits q0 c0 its))
      (all_left c z named free on [] f words (beside_none k) (living_of (sight k)) (same_objects c z named free on [] f words (beside_none k) (λ o. refl)))

  released_leads : (r : ℕ) (x : Released) → is_told q0 x ≡ true → (c : Cluster) (z : ThreadState) → z.number ≡ t → z.gift ≡ None → is_over z.phase ≡ over → Follows k c (stands n false y ∷ []) (stands n false z ∷ sent r (message.Release x) ∷ []) → LeavesWords k c → (ls : List Label) → tot loud ls ≡ 0
      → LeadsOn k.options (done_entry n t fresh.None (act.LetGo x ∷ []) ls) c0 c
  released_leads r x known c z named free on f words ls quiet =
      let e : EntryView = done_entry n t fresh.None (act.LetGo x ∷ []) ls in
      let news : List Thing = sent r (message.Release x) ∷ [] in
      ends_so (act.LetGo x ∷ []) ls c (left q0) quiet (runs_one k.options e (act.LetGo x) c0 (left q0) (allowed_left e (act.LetGo x) q0 (let_go_allowed k.options e c0 q0 x its known)))
      (all_left c z named free on news f words (beside_release k r x) (living_of (sight k)) (same_objects c z named free on news f words (beside_release k r x) (λ o. refl)))

  box_leads : (p : Spot) (b : BoxPtr) → AreThere k (holds p (owned.Box b) ∷ []) → Leads (owned.Box b)
  box_leads p b there c z named free on f words ls quiet =
      let acts : List Act = act.Condemn b.object b.word ∷ [] in
      let e : EntryView = done_entry n t fresh.None acts ls in
      let gone : Thing = sent (server_of b.word) (message.Drop b.word b.object) in
      let before : HasWords (sight k) = sound.words.have_words in
      let stay : WordsStay (sight k) (sight c) before = words.words before in
      let mine : drop_of b gone ≡ 1 = ap₂ (λ i j. one (i && j)) (numbers.itself b.word) (objects.itself b.object) in
      let named_so : before.word b.object ≡ b.word = sym (stay.same b.object) ∙ drop_names c stay.after b (omega (arith, f.things (drop_of b) (drop_seen b), mine)) in
      let it : Living = record { object = b.object; place = (place_of k sound p b [] there).0.1; word = b.word; value = (place_of k sound p b [] there).0.0; is_condemned = false } in
      ends_so acts ls c (left (condemning b.object q0)) quiet
      (runs_one k.options e (act.Condemn b.object b.word) c0 (left (condemning b.object q0)) (allowed_left e (act.Condemn b.object b.word) (condemning b.object q0) (condemn_allowed k.options e c0 q0 b.object b.word it its (lives_so k sound p b [] there named_so) (numbers.itself b.word) refl)))
      (all_left c z named free on (gone ∷ []) f words (beside_drop k (server_of b.word) b.word b.object) (condemning b.object q0).object
      (living_so k sound p b [] there named_so c (stands n false y ∷ []) (stands n false z ∷ []) f words.words (λ o g. refl) (λ o. refl)))

  -- whatever it is
  pub gives_lead : (v : Owned) → Given k v → Leads v
  gives_lead (owned.Box b) (from p there) = box_leads p b there
  gives_lead (owned.Mutex m) (from p there) = released_leads m.home (released.Mutex m) (mutex_given k sound m (λ f. let l = there (named_mutexes f) in omega (arith, l)))
  gives_lead (owned.Task u) (from p there) = released_leads (task_home u) (released.Task u) (thread_given k sound u (λ f. let l = there (threads f) in omega (arith, l)))
  gives_lead (owned.Box b) (nothing e) = absurd (cc e)
  gives_lead (owned.Mutex m) (nothing e) = absurd (cc e)
  gives_lead (owned.Task u) (nothing e) = absurd (cc e)
  gives_lead owned.Nothing g = nothing_goes
  gives_lead owned.Unit g = nothing_goes
  gives_lead (owned.Int i) g = nothing_goes

  -- and then it is told
  pub given_up : (h : Hand) (v : Owned) → Turning s y [] [] [] h → h.thread.gift ≡ None → Given k v → Steps (LeavesWords k) k s y c0 fresh.None over (working (give_up v) h)
  given_up h v t free g =
      let t2 : Turning s y [] (give_news v) (give_acts v) (working (give_up v) h) = told_of s y h v t in record {
        olds = [];
        news = give_news v;
        acts = give_acts v;
        turned = t2;
        gift = free;
        leads = λ c z named bare2 on f words. gives_lead v g c z named bare2 on f words (give_up v h.work).labels t2.labels;
      }
