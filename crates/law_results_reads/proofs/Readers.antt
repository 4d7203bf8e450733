-- Copies, dups and locks of places with stars have results: the place is ready, and what stands there is what the instruction takes; or something is asked for.
use Rattle.std.proofs.Common.{◌≡◌, ◌≤◌, ◌<◌, ℕ, zero, suc, ◌+◌, Bool, true, false, if◌then◌else◌, List, [], ◌∷◌, length, Option, Some, None, option_map, IsSome, refl, sym, ap, subst, ◌∙◌, arith}
use Rattle.std.specs.Prelude.{slice_get}
use Rattle.std.specs.List.{list_all}
use Rattle.law_counts_sums.specs.Below.fr_base.declared.place.Lval.{Lval}
use Rattle.law_counts_sums.specs.Below.fr_base.declared.step.Fresh.TheVariants as fresh
use Rattle.law_counts_sums.specs.Below.fr_base.declared.instruction.Instr.{Instr}
use Rattle.law_counts_sums.specs.Below.fr_base.declared.instruction.Instr.TheVariants as instr
use Rattle.law_counts_sums.specs.Below.fr_base.declared.name.MutexNo.{MutexNo}
use Rattle.law_counts_sums.proofs.Below.fr_typing.PlaceLemmas.{eq_cases}
use Rattle.law_counts_sums.specs.Below.fr_typing.Kinds.{Kind, own, shared, mutable, view, mutex, Piece, whole, gone, boxed, copies}
use Rattle.law_counts_sums.specs.Below.fr_typing.Places.{Env, found, type_at, alike, stars, read_blocked}
use Rattle.law_counts_sums.specs.Below.fr_typing.Checks.{is_int, names_from}
use Rattle.law_counts_sums.specs.Below.fr_store.Keys.{slot_k}
use Rattle.law_counts_sums.specs.Below.fr_store.Below.{ExactOf}
use Rattle.law_counts_sums.proofs.Below.fr_store.Below.{mut_place, resolved}
use Rattle.law_counts_sums.proofs.Below.fr_store.ThreadKept.{unlent_key}
use Rattle.law_words_paths.specs.Below.fr_sound.States.{hand_key, hand_kind}
use Rattle.law_counts_sums.specs.Below.fr_code.CodeTypes.{Entry, Table, wait, HasType, is_variable, InstrTypes, i_copy, i_dup, i_lock}
use Rattle.law_counts_sums.specs.Below.fr_code.CodeTable.{Leads, Successors, to_next, ends}
use Rattle.law_counts_sums.specs.Below.heap_partition.declared.value.Owned.{Owned}
use Rattle.law_counts_sums.specs.Below.heap_partition.declared.value.Owned.TheVariants as owned
use Rattle.law_counts_sums.specs.Below.migration.Packing.{unpin_all}
use Rattle.law_counts_sums.specs.Below.thread_state.View.{ThreadState}
use Rattle.law_counts_sums.specs.Below.thread_state.declared.value.Value.{Value}
use Rattle.law_counts_sums.specs.Below.thread_state.declared.value.Value.TheVariants as value
use Rattle.law_counts_sums.specs.Below.server_model.declared.event.What.TheVariants.{Step}
use Rattle.law_counts_sums.specs.Below.server_model.Servers.{Server, Cluster}
use Rattle.law_counts_sums.specs.Below.server_model.Work.{Hand, push_temp, mutex_of, then_some}
use Rattle.law_counts_sums.specs.Below.server_model.Places.{Spot, in_slot, value_at, load_at, second_of}
use Rattle.law_counts_sums.specs.Below.server_model.Prepare.{Prepared, ready, requested, nothing, and_then, ReadTo, read_or_taken, access_of, read_star, read_stars}
use Rattle.law_counts_sums.specs.Below.server_model.Commit.{goes_on, go_on, take_gift, push_content, ask_dup, ask_lock, waiting, dup, lock, commit}
use Rattle.law_counts_sums.specs.Below.server_model.Events.{committed, prepared}
use Rattle.law_counts_sums.specs.Below.coherent_memory.Things.{Location, at_slot}
use Rattle.law_counts_sums.specs.Below.coherent_memory.Follow.{Standing, Ground, value_in, locate}
use Rattle.law_counts_sums.specs.Below.coherent_memory.Sight.{sight}
use Rattle.law_counts_sums.specs.Kinds.{step_read, step_dup, step_lock, instr_kind}
use Rattle.law_counts_sums.specs.Laws.{HasResult}
use Rattle.law_results_reads.specs.Results.{FollowsNone, reads_variable, ReadsPlace, Anyhow, StepsHaveResults}
use Rattle.law_results_reads.proofs.Variables.{quiet_steps}
use Rattle.law_words_paths.specs.Below.coherent_types.Names.{NameTypes}
use Rattle.law_words_paths.specs.Below.coherent_types.ClusterTypes.{has_form, slot_form}
use Rattle.law_words_paths.specs.paths.HeapStore.{heap_store, GoesOn, IsUnmarked, HasPaths}
use Rattle.law_words_paths.proofs.paths.Forms.{running_typed, slot_part, names as names_at}
use Rattle.law_words_paths.proofs.paths.MayWrites.{awake_thread, and_first, top_names, top_free}
use Rattle.law_words_paths.proofs.paths.Sole.{some_is}
use Rattle.law_results_reads.proofs.Usable.{walk_goes}
use Rattle.law_results_reads.proofs.Known.{settled, Steps, hand, standing, able, paths, goes, entry, typed, types, usable, has_result}
use Rattle.law_results_reads.proofs.Copied.{few_users}
use Rattle.law_results_reads.proofs.Followed.{Place, Untaken}
use Rattle.law_results_reads.proofs.Reading.{Reading}
use Rattle.law_results_reads.proofs.Starred.{bound, At, a_slot, seen, Fine, star}
use Rattle.law_results_reads.proofs.Found.{Stood, stands_so, no_hole, second_at, mutex_at}

-- WHAT TYPING KNOWS OF A PLACE THAT IS READ

pub record IsReadable (x : Entry) (w : Lval) (q : Kind) : Type 0 where
  pub awake : x.forked ≡ false
  pub has : HasType x.env w (found (whole q))
  pub free : read_blocked x.env w.slot ≡ false
  pub waits_there : wait x.temps ≡ true

slot_there : (e : Env) (w : Lval) (q : Piece) → type_at e w ≡ found q → w.slot < length e
slot_there [] w q h = absurd cc
slot_there (s ∷ e) w q h = eq_cases (λ b. (if b then stars (alike e) (type_at e) w.depth s.part else type_at e w) ≡ found q → w.slot < suc (length e)) w.slot (length e) (λ same f. omega (arith, same)) (λ ne f. omega (arith, slot_there e w q f)) h

int_names : (n : ℕ) (k : Kind) → is_int k ≡ true → names_from n k ≡ false
int_names n (own o) e = refl
int_names n (shared us) e = absurd cc
int_names n (mutable us) e = absurd cc
int_names n (view o) e = refl

wait_names : (n : ℕ) (ts : List Kind) → wait ts ≡ true → top_names n ts ≡ false
wait_names n [] e = refl
wait_names n (k ∷ ts) e = int_names n k (and_first (is_int k) (list_all is_int ts) e)

no_mark : (n : NameTypes) (p : Piece) (m : MutexNo) → has_form n p (value.Held m) ≡ true → ⊥
no_mark n (whole (own o)) m e = absurd cc
no_mark n (whole (shared us)) m e = absurd cc
no_mark n (whole (mutable us)) m e = absurd cc
no_mark n (whole (view o)) m e = absurd cc
no_mark n (gone k) m e = absurd cc
no_mark n (boxed p) m e = absurd cc

module _ (k : Cluster) (c : HasPaths k) (x : Standing) (g : GoesOn k x) where
  abbrev its_entry : Entry
  its_entry = (running_typed k c x g).entry

  abbrev n : ℕ
  n = x.thread.number

  -- a variable of the environment is no mark
  pub variable_unmarked : (i : ℕ) → is_variable its_entry.env i ≡ true → IsUnmarked x i
  variable_unmarked i named m e =
      let q = slot_part k c x g i (value.Held m) e in
      let form : slot_form (names_at k c x g) q.slot true (value.Held m) ≡ true = subst (λ b. slot_form (names_at k c x g) q.slot b (value.Held m) ≡ true) (sym q.variable ∙ named) q.form in
      no_mark (names_at k c x g) q.slot.part m form

  pub readable_place : (w : Lval) (q : Kind) → IsReadable its_entry w q → (p : Place k c x false w) × ExactOf (slot_k n) c.types.typing.exact (whole q) p.type
  readable_place w q may =
      let thread = awake_thread k c x g may.awake in
      let lt = slot_there its_entry.env w (whole q) may.has.is in
      let r = resolved (slot_k n) c.types.typing.exact (mut_place c.types.typing.rank c.types.typing.exact (heap_store k c.types) c.types.state.typed) its_entry.env thread.nested thread.slots w (whole q) lt may.has.is in (
        record {
          free = unlent_key (slot_k n) c.types.typing.rank (hand_key n its_entry.temps) its_entry.env c.types.typing.exact (heap_store k c.types) (hand_kind its_entry.temps) (running_typed k c x g).keys thread w.slot may.free
              (top_free n w.slot c.types.typing.exact its_entry.temps thread.temp (wait_names w.slot its_entry.temps may.waits_there) true);
          base = r.base;
          boxes = r.boxes;
          type = r.type;
          resolves = r.res;
          unmarked = variable_unmarked w.slot may.has.named;
        },
        r.exact,
      )

-- ALL STARS

module _ (k : Cluster) (n t : ℕ) (s : Server) (y : ThreadState) (i : Instr) (z : Steps k n t s y i) where
  abbrev x : Standing
  x = standing k n t s y i z

  abbrev g : Ground
  g = (sight k).ground

  abbrev tn : ℕ
  tn = y.number

  abbrev h0 : Hand
  h0 = hand k n t s y i z

  abbrev Reads : ℕ → Hand → Type 0
  Reads d h = Reading y s.rest (bound k n t s y i z) d h

  pub begins : Reads 0 h0
  begins = record {
    number = refl;
    partition = refl;
    hits = λ w. refl;
    few = λ w. omega (arith, few_users k (paths k n t s y i z) z.coherent.sound n s z.here w);
    usable = usable k n t s y i z;
    slots = refl;
    temps = refl;
    gift = refl;
    phase = refl;
    id = refl;
  }

  -- the thread has taken nothing from the pointers that the first so many stars follow
  abbrev pub IsFree : (only : Bool) (w : Lval) → Place k (paths k n t s y i z) x only w → ℕ → Type 0
  IsFree only w place most =
      (d : ℕ) (lt : d < w.depth) → d < most → (l : Location) (located : locate g tn w.slot d ≡ Some l) (m : Location) (v : Value) (stands : value_in g l ≡ Some v) (leads_on : Rattle.law_counts_sums.specs.Below.coherent_memory.Follow.leads tn (Some v) ≡ Some m)
      → Untaken k z.coherent.sound (paths k n t s y i z) n s z.here x (goes k n t s y i z) (able k n t s y i z) only w place d lt l m v located stands leads_on

  then_fine : (slot d e : ℕ) (go : Hand → Spot → Prepared) (p : Prepared) → Fine k n t s y i z slot d p → ((h : Hand) (sp : Spot) (l : Location) → locate g tn slot d ≡ Some l → At k n t s y i z sp l → Reads d h → Fine k n t s y i z slot e (go h sp)) → Fine k n t s y i z slot e (and_then go p)
  then_fine slot d e go (ready h sp) f next = next h sp f.0 f.1 f.2 f.3
  then_fine slot d e go (requested h) f next = tt
  then_fine slot d e go nothing f next = absurd f

  module _ (only : Bool) (w : Lval) (place : Place k (paths k n t s y i z) x only w) (short : w.depth ≤ 8) (most : ℕ) (le : most ≤ w.depth) (free : IsFree only w place most) where
    all_stars : (d j : ℕ) → j + d ≡ most → (h : Hand) (sp : Spot) (l : Location) → locate g tn w.slot j ≡ Some l → At k n t s y i z sp l → Reads j h → Fine k n t s y i z w.slot most (read_stars d h sp)
    all_stars zero j e h sp l located spot a =
        let one : j ≡ most = omega (arith, e) in
        (l, subst (λ q. locate g tn w.slot q ≡ Some l) one located, spot, subst (λ q. Reads q h) one a)
    all_stars (suc d) j e h sp l located spot a =
        let lt : j < w.depth = omega (arith, e, le) in
        let under : j < most = omega (arith, e) in
        then_fine w.slot (j + 1) most (read_stars d) (read_star h sp) (star k n t s y i z only w place j lt short l located (free j lt under l located) h sp spot a)
        (λ h2 sp2 l2 located2 spot2 a2. all_stars d (j + 1) (omega (arith, e)) h2 sp2 l2 located2 spot2 a2)

    pub stars_fine : Fine k n t s y i z w.slot most (read_stars most h0 (in_slot w.slot))
    stars_fine = all_stars most 0 (omega arith) h0 (in_slot w.slot) (at_slot tn w.slot) refl (a_slot w.slot) begins

  -- who lends nothing has taken nothing
  pub never_taken : ((p : Lval) → i ≡ instr.BorrowMut p → ⊥) → (only : Bool) (w : Lval) (place : Place k (paths k n t s y i z) x only w) → IsFree only w place w.depth
  never_taken other only w place d lt under l located m v stands leads_on u p so_many taken code depth there = other p (some_is (sym z.code ∙ code))

  abbrev servers : ℕ
  servers = k.options.servers

  -- where a place is ready, or asked for, the step goes on
  pub on_fine : (slot d : ℕ) (p : Prepared) → Fine k n t s y i z slot d p → ((h : Hand) (sp : Spot) (l : Location) → locate g tn slot d ≡ Some l → At k n t s y i z sp l → Reads d h → IsSome (committed (commit servers i sp h))) → IsSome (prepared servers i p)
  on_fine slot d (ready h sp) f go = go h sp f.0 f.1 f.2 f.3
  on_fine slot d (requested h) f go = refl
  on_fine slot d nothing f go = absurd f

  -- a step that leaves the walk and the cache as the reading did
  pub settles : (d : ℕ) (h h2 : Hand) → Reads d h → h2.thread.walk ≡ h.thread.walk → h2.work.rest.cache ≡ h.work.rest.cache → IsSome (committed (goes_on (Some h2)))
  settles d h h2 a walk cache =
      settled fresh.None (go_on h2) (subst (λ ws. IsSome (unpin_all ws h2.work.rest.cache)) (sym walk) (subst (λ cs. IsSome (unpin_all h.thread.walk cs)) (sym cache) (walk_goes h.thread h.work.rest.cache a.usable)))

  module _ (w : Lval) (q : Kind) (may : IsReadable (entry k n t s y i z) w q) (lends_none : (p : Lval) → i ≡ instr.BorrowMut p → ⊥) where
    abbrev c : HasPaths k
    c = paths k n t s y i z

    place : (p : Place k c x false w) × ExactOf (slot_k tn) c.types.typing.exact (whole q) p.type
    place = readable_place k c x (goes k n t s y i z) w q may

    its_value : (l : Location) → locate g tn w.slot w.depth ≡ Some l → (v : Value) × (value_in g l ≡ Some v) × Stood k c x (goes k n t s y i z) place.0.type l v
    its_value l located =
        let r = stands_so k c x (goes k n t s y i z) false w place.0.base place.0.boxes place.0.type place.0.unmarked place.0.resolves (no_hole k c x (goes k n t s y i z) q place.0.type place.1) in
        let same : r.0 ≡ l = some_is (sym r.2 ∙ located) in
        (r.1, ap (value_in g) (sym same) ∙ r.3, subst (λ m. Stood k c x (goes k n t s y i z) place.0.type m r.1) same r.4)

    fine : Fine k n t s y i z w.slot w.depth (read_stars w.depth h0 (in_slot w.slot))
    fine = stars_fine false w place.0 may.has.short w.depth (omega arith) (never_taken lends_none false w place.0)

    abbrev Done : Option Hand → Type 0
    Done o = IsSome (committed (goes_on o))

    -- the place is copied
    pub copied : i ≡ instr.Read w false → copies q ≡ true → IsSome (prepared servers i (read_stars w.depth h0 (in_slot w.slot)))
    copied is twice = on_fine w.slot w.depth (read_stars w.depth h0 (in_slot w.slot)) fine
        (λ h sp l located spot a.
        let v = its_value l located in
        let u = seen k n t s y i z w.depth h sp l v.0 a spot v.1 in
        let two = second_at k c x (goes k n t s y i z) q place.0.type l v.0 u.0 v.2 place.1 twice u.2 in
        subst (λ j. IsSome (committed (commit servers j sp h))) (sym is)
        (subst (λ o. Done (then_some o (λ b. option_map (λ e. push_temp e (load_at sp h)) (second_of b)))) (sym u.1)
        (subst (λ o. Done (option_map (λ e. push_temp e (load_at sp h)) o)) (sym two.1) (settles w.depth h (push_temp two.0 (load_at sp h)) a refl refl))))

    module _ (o : Rattle.law_counts_sums.specs.Below.fr_typing.Kinds.Owned) (is_mutex : q ≡ own (mutex o)) where
      found_mutex : (h : Hand) (sp : Spot) (l : Location) → locate g tn w.slot w.depth ≡ Some l → At k n t s y i z sp l → Reads w.depth h → (m : MutexNo) × (value_at h sp ≡ Some (value.Own (owned.Mutex m)))
      found_mutex h sp l located spot a =
          let v = its_value l located in
          let u = seen k n t s y i z w.depth h sp l v.0 a spot v.1 in
          let m = mutex_at k c x (goes k n t s y i z) o place.0.type l v.0 u.0 v.2 (subst (λ e. ExactOf (slot_k tn) c.types.typing.exact (whole e) place.0.type) is_mutex place.1) u.2 in
          (m.0, u.1 ∙ ap Some m.1)

      -- a share is asked for, or taken
      pub dupped : i ≡ instr.Dup w → IsSome (prepared servers i (read_stars w.depth h0 (in_slot w.slot)))
      dupped is = on_fine w.slot w.depth (read_stars w.depth h0 (in_slot w.slot)) fine
          (λ h sp l located spot a. let m = found_mutex h sp l located spot a in subst (λ j. IsSome (committed (commit servers j sp h))) (sym is) (by h sp m.0 m.1 a h.thread.gift))
        where
          by : (h : Hand) (sp : Spot) (m : MutexNo) → value_at h sp ≡ Some (value.Own (owned.Mutex m)) → Reads w.depth h → (e : Option Owned) → IsSome (committed (dup sp e h))
          by h sp m at a None = subst (λ b. IsSome (committed (waiting (option_map (ask_dup h) (then_some b mutex_of))))) (sym at) refl
          by h sp m at a (Some share) = subst (λ b. Done (option_map (λ e. push_temp (value.Own share) (load_at sp (take_gift h))) (then_some b mutex_of))) (sym at) (settles w.depth h (push_temp (value.Own share) (load_at sp (take_gift h))) a refl refl)

      -- the content is asked for, or taken
      pub locked : i ≡ instr.Lock w → IsSome (prepared servers i (read_stars w.depth h0 (in_slot w.slot)))
      locked is = on_fine w.slot w.depth (read_stars w.depth h0 (in_slot w.slot)) fine
          (λ h sp l located spot a. let m = found_mutex h sp l located spot a in subst (λ j. IsSome (committed (commit servers j sp h))) (sym is) (by h sp m.0 m.1 a h.thread.gift))
        where
          by : (h : Hand) (sp : Spot) (m : MutexNo) → value_at h sp ≡ Some (value.Own (owned.Mutex m)) → Reads w.depth h → (e : Option Owned) → IsSome (committed (lock sp e h))
          by h sp m at a None = subst (λ b. IsSome (committed (waiting (option_map (ask_lock h) (then_some b mutex_of))))) (sym at) refl
          by h sp m at a (Some content) =
              subst (λ b. Done (option_map (push_content content (load_at sp (take_gift h))) (then_some b mutex_of))) (sym at) (settles w.depth h (push_content content (load_at sp (take_gift h)) m) a refl refl)

-- EACH SUCH STEP

readable_copy : (table : Table) (e e2 : Entry) (w : Lval) → InstrTypes table e (instr.Read w false) e2 → (q : Kind) × (copies q ≡ true) × IsReadable e w q
readable_copy table _ _ w (i_copy {k = q} waits has twice free) = (q, twice, record { awake = refl; has = has; free = free; waits_there = waits })

readable_dup : (table : Table) (e e2 : Entry) (w : Lval) → InstrTypes table e (instr.Dup w) e2 → (o : Rattle.law_counts_sums.specs.Below.fr_typing.Kinds.Owned) × IsReadable e w (own (mutex o))
readable_dup table _ _ w (i_dup {x = o} waits has free) = (o, record { awake = refl; has = has; free = free; waits_there = waits })

readable_lock : (table : Table) (e e2 : Entry) (w : Lval) → InstrTypes table e (instr.Lock w) e2 → (o : Rattle.law_counts_sums.specs.Below.fr_typing.Kinds.Owned) × IsReadable e w (own (mutex o))
readable_lock table _ _ w (i_lock {x = o} name waits has free new) = (o, record { awake = refl; has = has; free = free; waits_there = waits })

-- an instruction that isn't the end of its thread is typed
pub to_entry : (table : Table) (pc : ℕ) (e : Entry) (i : Instr) (ss : Successors) → Leads table pc e i ss → ((o : Rattle.law_counts_sums.specs.Below.fr_base.declared.instruction.Operand.Operand) → i ≡ instr.End o → ⊥) → (e2 : Entry) × InstrTypes table e i e2
to_entry table pc e i _ (to_next {y = e2} t) other = (e2, t)
to_entry table pc _ _ _ (ends {o = o} t) other = absurd (other o refl)

module _ (k : Cluster) (n t : ℕ) (s : Server) (y : ThreadState) (w : Lval) where
  same_access : (d : ℕ) → read_or_taken w d false ≡ ReadTo w
  same_access zero = refl
  same_access (suc d) = refl

  pub copy_step : Steps k n t s y (instr.Read w false) → HasResult k n (Step t)
  copy_step z =
      let at = typed k n t s y (instr.Read w false) z in
      let to = to_entry (types k n t s y (instr.Read w false) z).table y.pc (entry k n t s y (instr.Read w false) z) (instr.Read w false) at.0 at.1 (λ o e. cc) in
      let q = readable_copy (types k n t s y (instr.Read w false) z).table (entry k n t s y (instr.Read w false) z) to.0 w to.1 in
      has_result k n t s y (instr.Read w false) z
      (subst (λ a. IsSome (prepared k.options.servers (instr.Read w false) (Rattle.law_counts_sums.specs.Below.server_model.Prepare.prepare (Some a) (hand k n t s y (instr.Read w false) z)))) (sym (same_access w.depth))
      (copied k n t s y (instr.Read w false) z w q.0 q.2 (λ p e. cc) refl q.1))

  pub dup_step : Steps k n t s y (instr.Dup w) → HasResult k n (Step t)
  dup_step z =
      let at = typed k n t s y (instr.Dup w) z in
      let to = to_entry (types k n t s y (instr.Dup w) z).table y.pc (entry k n t s y (instr.Dup w) z) (instr.Dup w) at.0 at.1 (λ o e. cc) in
      let q = readable_dup (types k n t s y (instr.Dup w) z).table (entry k n t s y (instr.Dup w) z) to.0 w to.1 in
      has_result k n t s y (instr.Dup w) z (dupped k n t s y (instr.Dup w) z w (own (mutex q.0)) q.1 (λ p e. cc) q.0 refl refl)

  pub lock_step : Steps k n t s y (instr.Lock w) → HasResult k n (Step t)
  lock_step z =
      let at = typed k n t s y (instr.Lock w) z in
      let to = to_entry (types k n t s y (instr.Lock w) z).table y.pc (entry k n t s y (instr.Lock w) z) (instr.Lock w) at.0 at.1 (λ o e. cc) in
      let q = readable_lock (types k n t s y (instr.Lock w) z).table (entry k n t s y (instr.Lock w) z) to.0 w to.1 in
      has_result k n t s y (instr.Lock w) z (locked k n t s y (instr.Lock w) z w (own (mutex q.0)) q.1 (λ p e. cc) q.0 refl refl)

-- THE CLAUSES

pub copies_have_results : StepsHaveResults step_read ReadsPlace
copies_have_results k n t s y i coherent few server on at code is f = by i code is f
  where
    moved : (w : Lval) (d : ℕ) → w.depth ≡ d → ReadsPlace (Some (read_or_taken w d true)) → FollowsNone (Some (read_or_taken w d true))
    moved w zero e f = reads_variable e
    moved w (suc d) e f = elim f [ ]

    by : (i : Instr) → slice_get k.code y.pc ≡ Some i → instr_kind i ≡ step_read → ReadsPlace (access_of i y) → HasResult k n (Step t)
    by (instr.Read w false) c e f = copy_step k n t s y w (record { coherent = coherent; few = few; here = server; on = on; at = at; code = c })
    by (instr.Read w true) c e f = quiet_steps step_read tt (λ q. cc) k n t s y (instr.Read w true) coherent few server on at c refl (moved w w.depth refl f)
    by _ c e f = absurd (cc e)

pub dups_have_results : StepsHaveResults step_dup Anyhow
dups_have_results k n t s y i coherent few server on at code is f = by i code is
  where
    by : (i : Instr) → slice_get k.code y.pc ≡ Some i → instr_kind i ≡ step_dup → HasResult k n (Step t)
    by (instr.Dup w) c e = dup_step k n t s y w (record { coherent = coherent; few = few; here = server; on = on; at = at; code = c })
    by _ c e = absurd (cc e)

pub locks_have_results : StepsHaveResults step_lock Anyhow
locks_have_results k n t s y i coherent few server on at code is f = by i code is
  where
    by : (i : Instr) → slice_get k.code y.pc ≡ Some i → instr_kind i ≡ step_lock → HasResult k n (Step t)
    by (instr.Lock w) c e = lock_step k n t s y w (record { coherent = coherent; few = few; here = server; on = on; at = at; code = c })
    by _ c e = absurd (cc e)
