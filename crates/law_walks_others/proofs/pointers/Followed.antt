-- What is said of each thread but the event's own one, by the pointers on its way: what it has followed, what it waits for, and what it has taken.
use Rattle.std.proofs.Common.{◌≡◌, ℕ, ◌+◌, ◌≤◌, ◌==◌, ◌&&◌, not, Bool, true, false, Option, Some, None, is_some, refl, sym, ap, subst, ◌∙◌, arith}
use Rattle.std.proofs.lemmas.Bool.Decides.{nat_tests}
use Rattle.law_words_values.specs.Below.fr_base.declared.name.ObjNo.{ObjNo}
use Rattle.law_words_values.specs.Below.fr_base.declared.place.Lval.{Lval}
use Rattle.law_words_values.specs.Below.heap_partition.declared.value.Owned.{Owned}
use Rattle.law_words_values.specs.Below.thread_state.View.{is_over}
use Rattle.law_words_values.specs.Below.thread_state.declared.phase.Phase.{Phase}
use Rattle.law_words_values.specs.Below.thread_state.declared.phase.Phase.TheVariants as phase
use Rattle.law_words_values.specs.Below.journal.View.{EntryView}
use Rattle.law_words_values.specs.Below.server_model.declared.event.Event.{Event}
use Rattle.law_words_values.specs.Below.server_model.declared.event.What.TheVariants.{Step}
use Rattle.law_words_values.specs.Below.server_model.Servers.{Cluster, server_at}
use Rattle.law_words_values.specs.Below.server_model.Events.{is_ready}
use Rattle.law_words_values.specs.Below.server_model.Clusters.{done_at, apply}
use Rattle.law_words_values.specs.Below.coherent_memory.Names.{tot, one, if_so, Among}
use Rattle.law_words_values.specs.Below.coherent_memory.Things.{in_cell, things_of}
use Rattle.law_words_values.specs.Below.coherent_memory.Follow.{Standing, Ground, threads_in, thread_at, locate}
use Rattle.law_words_values.specs.Below.coherent_memory.Paths.{written_place, followed}
use Rattle.law_words_values.specs.Below.coherent_memory.Sight.{Sight, sight}
use Rattle.law_words_values.specs.Below.coherent_memory.Walking.{instr_of, path, words_kept, loose_hop, in_walk, early, too_far, over_place, over_passed, away, has_gift_there, has_followed, lost_place, out_of_turn}
use Rattle.law_words_values.specs.Below.coherent_memory.Requests.{is_got, early_gift, old_word}
use Rattle.law_words_values.specs.Below.coherent_memory.Coherent.{Holds, passed_in_a_walk}
use Rattle.law_words_values.proofs.Below.coherent_memory.Words.{none_at}
use Rattle.law_words_values.specs.Below.coherent_types.ClusterTypes.{IsCoherent}
use Rattle.law_words_values.specs.Below.law_words_paths.paths.HeapStore.{GoesOn, HasPaths}
use Rattle.law_words_values.proofs.Below.law_words_paths.paths.Contained.{among_thread}
use Rattle.law_words_values.proofs.Below.law_words_paths.paths.Sole.{some_is}
use Rattle.law_counts_waiting.specs.Below.law_words_paths.words.Reworded.{HasPlaces}
use Rattle.law_words_values.specs.Below.law_counts_sums.Laws.{Gives, FewEvents}
use Rattle.law_words_values.proofs.Below.law_counts_sums.Results.{then_gives, map_gives, both_give, weaker}
use Rattle.law_words_values.proofs.Below.law_heap_still.events.Told.{found}
use Rattle.law_words_values.proofs.Below.law_counts_things.things.Sentences.{passed_kept}
use Rattle.law_counts_waiting.specs.waits.Places.{Follows}
use Rattle.law_counts_waiting.proofs.waits.Written.{Written}
use Rattle.law_words_values.specs.Below.coherent_memory.Passing.{FollowedLaw, PassedLaw}
use Rattle.law_words_values.specs.Below.coherent_memory.Turn.{TurnLaw}
use Rattle.law_words_values.proofs.Below.coherent_memory.Followed.{followed_law}
use Rattle.law_words_values.proofs.Below.coherent_memory.Passing.{passed_law}
use Rattle.law_words_values.proofs.Below.coherent_memory.Turn.{turn_law}
use Rattle.law_walks_others.specs.pointers.Pointers.{SamePointers, OthersStepsKeep}
use Rattle.law_walks_others.proofs.pointers.Clusters.{SeesOn}
use Rattle.law_walks_others.proofs.pointers.Still.{places_of, Lasts, Stays, stays, pointers_same}
use Rattle.law_walks_others.proofs.pointers.Others.{Own, step_lasts, follows_apart, Known, known}
use Rattle.law_walks_others.proofs.pointers.New.{newly, step_quiet, new_ones}
use Rattle.law_walks_others.proofs.pointers.Sentences.{SameOn, lost_same, turn_kept, old_same}
use Rattle.law_walks_others.proofs.pointers.Ways.{same_on}
use Rattle.law_walks_others.proofs.pointers.Lying.{away_kept}

-- WHO IS IDLE

-- it does nothing any more, or nothing yet
abbrev idle : Phase → Bool
idle phase.Ready = true
idle phase.Over = true
idle q = false

over_idle : (q : Phase) → is_over q ≡ true → idle q ≡ true
over_idle phase.Over e = refl
over_idle q e = absurd (cc e)

over_got : (q : Phase) → is_over q ≡ true → is_got q ≡ false
over_got phase.Over e = refl
over_got q e = absurd (cc e)

ready_idle : (q : Phase) → one (not (is_ready q)) ≡ 0 → idle q ≡ true
ready_idle phase.Ready e = refl
ready_idle phase.Got e = absurd (cc e)
ready_idle (phase.Taken w) e = absurd (cc e)
ready_idle (phase.WaitCell w) e = absurd (cc e)
ready_idle (phase.WaitLock m) e = absurd (cc e)
ready_idle (phase.WaitDup m) e = absurd (cc e)
ready_idle (phase.WaitJoin u) e = absurd (cc e)
ready_idle (phase.WaitPar u v) e = absurd (cc e)
ready_idle (phase.GotPar u v) e = absurd (cc e)
ready_idle phase.Over e = absurd (cc e)

none_there : (v : Option Owned) → one (is_some v) ≡ 0 → v ≡ None
none_there None e = refl
none_there (Some v) e = absurd (cc e)

no_gift : (v : Option Owned) (b : Bool) → b ≡ false → one (is_some v && not b) ≡ 0 → v ≡ None
no_gift None b e z = refl
no_gift (Some v) true e z = absurd (cc e)
no_gift (Some v) false e z = absurd (cc z)

idle_follows : (s : Sight) (x : Standing) (q : Phase) → idle q ≡ true → x.thread.gift ≡ None → has_followed s x q ≡ false
idle_follows s x phase.Ready e g = ap (λ v. has_gift_there v (instr_of s x)) g
idle_follows s x phase.Over e g = ap (λ v. has_gift_there v (instr_of s x)) g
idle_follows s x phase.Got e g = absurd (cc e)
idle_follows s x (phase.Taken w) e g = absurd (cc e)
idle_follows s x (phase.WaitCell w) e g = absurd (cc e)
idle_follows s x (phase.WaitLock m) e g = absurd (cc e)
idle_follows s x (phase.WaitDup m) e g = absurd (cc e)
idle_follows s x (phase.WaitJoin u) e g = absurd (cc e)
idle_follows s x (phase.WaitPar u v) e g = absurd (cc e)
idle_follows s x (phase.GotPar u v) e g = absurd (cc e)

idle_turn : (s : Sight) (x : Standing) (q : Phase) → idle q ≡ true → out_of_turn s x q ≡ 0
idle_turn s x (phase.WaitCell w) e = absurd (cc e)
idle_turn s x phase.Ready e = refl
idle_turn s x phase.Got e = refl
idle_turn s x (phase.Taken w) e = refl
idle_turn s x (phase.WaitLock m) e = refl
idle_turn s x (phase.WaitDup m) e = refl
idle_turn s x (phase.WaitJoin u) e = refl
idle_turn s x (phase.WaitPar u v) e = refl
idle_turn s x (phase.GotPar u v) e = refl
idle_turn s x phase.Over e = refl

idle_old : (s : Sight) (x : Standing) (q : Phase) → idle q ≡ true → old_word s x q ≡ 0
idle_old s x (phase.Taken w) e = absurd (cc e)
idle_old s x phase.Ready e = refl
idle_old s x phase.Got e = refl
idle_old s x (phase.WaitCell w) e = refl
idle_old s x (phase.WaitLock m) e = refl
idle_old s x (phase.WaitDup m) e = refl
idle_old s x (phase.WaitJoin u) e = refl
idle_old s x (phase.WaitPar u v) e = refl
idle_old s x (phase.GotPar u v) e = refl
idle_old s x phase.Over e = refl

unpassed : (m : ℕ) (b : Bool) → (m == 0) ≡ b → one (true && not b) ≡ 0 → m ≡ 0
unpassed m true f z = grind (arith, nat_tests, f)
unpassed m false f z = absurd (cc z)

idle_passed : (q : Phase) (m : ℕ) → idle q ≡ true → one (not (in_walk q) && not (m == 0)) ≡ 0 → m ≡ 0
idle_passed phase.Ready m e z = unpassed m (m == 0) refl z
idle_passed phase.Over m e z = unpassed m (m == 0) refl z
idle_passed phase.Got m e z = absurd (cc e)
idle_passed (phase.Taken w) m e z = absurd (cc e)
idle_passed (phase.WaitCell w) m e z = absurd (cc e)
idle_passed (phase.WaitLock n) m e z = absurd (cc e)
idle_passed (phase.WaitDup n) m e z = absurd (cc e)
idle_passed (phase.WaitJoin u) m e z = absurd (cc e)
idle_passed (phase.WaitPar u v) m e z = absurd (cc e)
idle_passed (phase.GotPar u v) m e z = absurd (cc e)

none_passed : (s : Sight) (x : Standing) (o : Option Lval) → over_place s.ground x.thread.number 0 (away s x.server) o ≡ 0
none_passed s x None = refl
none_passed s x (Some w) = refl

-- AFTERWARDS

-- what is known of the cluster
pub record After (k c : Cluster) (Own : ℕ → Type 0) (Changed : ObjNo → Type 0) : Type 0 where
  pub code : c.code ≡ k.code
  pub options : c.options ≡ k.options
  pub places : HasPlaces c
  pub lasts : Lasts k c Own Changed
  pub new : tot (newly k) (threads_in (things_of c)) ≡ 0
  pub walks : Holds c passed_in_a_walk

-- its places pass no object that the event changes
abbrev pub Aside : (k : Cluster) → (ℕ → Type 0) → (ObjNo → Type 0) → Type 0
Aside k Own Changed = (x : Standing) → GoesOn k x → (Own x.thread.number → ⊥) → (w : Lval) → Follows k x w → (m : ℕ) (o : ObjNo) → m ≤ w.depth → locate (sight k).ground x.thread.number w.slot m ≡ Some (in_cell o) → Changed o → ⊥

module _ (k c : Cluster) (Own : ℕ → Type 0) (Changed : ObjNo → Type 0) (coherent : IsCoherent k) (p : HasPaths k) (a : After k c Own Changed) (aside : Aside k Own Changed) where
  abbrev G : Ground
  G = (sight k).ground

  abbrev G2 : Ground
  G2 = (sight c).ground

  abbrev places : HasPlaces c
  places = a.places

  abbrev lasts : Lasts k c Own Changed
  lasts = a.lasts

  -- the pointers of a place that is followed
  pub same_there : (x : Standing) → GoesOn k x → (Own x.thread.number → ⊥) → (w : Lval) → Follows k x w → SamePointers k c x.thread.number w
  same_there x g ne w f = pointers_same k c Own Changed (places_of coherent) places lasts p x g ne w (aside x g ne w f)

  -- ONE THREAD

  -- what of a thread may be wrong is nothing where it is idle and has no gift, and where it was nothing and the pointers on its way are the same
  pub record Told (wrong : Sight → Standing → ℕ) : Type 0 where
    pub before : (x : Standing) → Among x G.threads → wrong (sight k) x ≡ 0
    pub kept : (x : Standing) → GoesOn k x → (Own x.thread.number → ⊥) → SameOn k c x.thread.number (path (sight k) x) → wrong (sight k) x ≡ 0 → wrong (sight c) x ≡ 0
    pub rests : (x : Standing) → idle x.thread.phase ≡ true → x.thread.gift ≡ None → early x ≡ 0 → wrong (sight c) x ≡ 0

  pub of_thread : (wrong : Sight → Standing → ℕ) → Told wrong → (y : Standing) → Among y (sight c).ground.threads → (Own y.thread.number → ⊥) → wrong (sight c) y ≡ 0
  of_thread wrong w y among ne = by (thread_at G.threads y.thread.number) refl
    where
      here : thread_at G2.threads y.thread.number ≡ Some y
      here = let places = a.places in found y (things_of c) (places.numbers_differ y.thread.number) among

      stood : (x : Standing) → Among x G.threads → x.thread.number ≡ y.thread.number → wrong (sight c) x ≡ 0
      stood x listed number = going (is_over x.thread.phase) refl
        where
          off : Own x.thread.number → ⊥
          off h = ne (subst Own number h)

          going : (b : Bool) → is_over x.thread.phase ≡ b → wrong (sight c) x ≡ 0
          going true e =
              let soon : early_gift x ≡ 0 = none_at early_gift x G.threads coherent.sound.requests.gifts_got listed in
              w.rests x (over_idle x.thread.phase e) (no_gift x.thread.gift (is_got x.thread.phase) (over_got x.thread.phase e) soon) (none_at early x G.threads coherent.sound.walks.passed_in_a_walk listed)
          going false e =
              let g : GoesOn k x = record { among = listed; going = e } in
              w.kept x g off (same_on k c x (same_there x g off)) (w.before x listed)

      by : (o : Option Standing) → thread_at G.threads y.thread.number ≡ o → wrong (sight c) y ≡ 0
      by None e =
          let none : newly k y ≡ 0 = none_at (newly k) y (threads_in (things_of c)) a.new among in
          let parts : one (not (is_ready y.thread.phase)) + one (is_some y.thread.gift) ≡ 0 = sym (ap (λ o. if_so (not (is_some o)) (one (not (is_ready y.thread.phase)) + one (is_some y.thread.gift))) e) ∙ none in
          w.rests y (ready_idle y.thread.phase (omega (arith, parts))) (none_there y.thread.gift (omega (arith, parts))) (none_at early y (threads_in (things_of c)) a.walks among)
      by (Some x) e =
          let listed = among_thread G.threads y.thread.number x e in
          let off : Own x.thread.number → ⊥ = λ (q : Own x.thread.number). ne (subst Own listed.1 q) in
          let st : Stays k c Own Changed (places_of coherent) places lasts x = stays k c Own Changed (places_of coherent) places lasts x (ap (thread_at G.threads) listed.1 ∙ e) off in
          let it : st.standing ≡ y = some_is (sym st.found ∙ ap (thread_at G2.threads) listed.1 ∙ here) in
          ap (wrong (sight c)) (sym it) ∙ st.same (wrong (sight c)) ∙ stood x listed.0 listed.1

  -- SENTENCES

  lost_told : Told lost_place
  lost_told = record {
    before = λ x among. none_at (lost_place (sight k)) x G.threads (let law : FollowedLaw = followed_law in law.none_counted (sight k) coherent.sound.walks.have_followed) among;
    kept = λ x g ne same z. lost_same k c x a.code a.options same ∙ z;
    rests = λ x e g b. ap (λ b. if_so b (tot (loose_hop x.server (words_kept x.thread)) (followed G2 x.thread.number (path (sight c) x)))) (idle_follows (sight c) x x.thread.phase e g);
  }

  abbrev turn_at : Sight → Standing → ℕ
  turn_at s x = out_of_turn s x x.thread.phase

  turn_told : Told turn_at
  turn_told = record {
    before = λ x among. none_at (λ y. out_of_turn (sight k) y y.thread.phase) x G.threads (let law : TurnLaw = turn_law in law.none_counted (sight k) coherent.sound.walks.wait_in_turn) among;
    kept = λ x g ne same z. turn_kept k c x a.code a.options same (λ b. lasts.asked x.thread.number b) x.thread.phase z;
    rests = λ x e g b. idle_turn (sight c) x x.thread.phase e;
  }

  abbrev old_at : Sight → Standing → ℕ
  old_at s x = old_word s x x.thread.phase

  old_told : Told old_at
  old_told = record {
    before = λ x among. none_at (λ y. old_word (sight k) y y.thread.phase) x G.threads coherent.sound.requests.taken_is_new among;
    kept = λ x g ne same z. old_same k c x a.code a.options same x.thread.phase ∙ z;
    rests = λ x e g b. idle_old (sight c) x x.thread.phase e;
  }

  pub all_told : (y : Standing) → Among y (sight c).ground.threads → (Own y.thread.number → ⊥) → (lost_place (sight c) y ≡ 0) × (out_of_turn (sight c) y y.thread.phase ≡ 0) × (old_word (sight c) y y.thread.phase ≡ 0)
  all_told y among ne = (of_thread lost_place lost_told y among ne, of_thread turn_at turn_told y among ne, of_thread old_at old_told y among ne)

-- THE STEP

step_aside : (k : Cluster) (p : HasPaths k) (t : ℕ) → Aside k (Own t) (Written k p t)
step_aside k p t x g ne w f m o le located h = ne (follows_apart k p x g w f m (in_cell o) le located t o refl h)

module _ (k c : Cluster) (t : ℕ) (coherent : IsCoherent k) (p : HasPaths k) (sees : SeesOn k p t (things_of k) (things_of c)) (a : After k c (Own t) (Written k p t)) where
  abbrev aside : Aside k (Own t) (Written k p t)
  aside = step_aside k p t

  -- what it has passed lies there
  abbrev away_at : Sight → Standing → ℕ
  away_at s x = over_passed s (away s) x

  away_told : Told k c (Own t) (Written k p t) coherent p a aside away_at
  away_told = record {
    before = λ x among. (let law : PassedLaw = passed_law in let none = law.none_counted k coherent.sound.walks.have_passed in none_at (away_at (sight k)) x (sight k).ground.threads (omega (arith, none)) among);
    kept = λ x g ne same z.
        away_kept k c p t sees x g ne (same_there k c (Own t) (Written k p t) coherent p a aside x g ne) a.code (none_at (too_far (sight k)) x (sight k).ground.threads coherent.sound.walks.passed_within g.among) z;
    rests = λ x e g b. (let none = idle_passed x.thread.phase x.thread.passed e b in ap (λ m. over_place (sight c).ground x.thread.number m (away (sight c) x.server) (written_place (path (sight c) x))) none ∙ none_passed (sight c) x (written_place (path (sight c) x)));
  }

  pub step_told : (y : Standing) → Among y (sight c).ground.threads → (y.thread.number ≡ t → ⊥) → (lost_place (sight c) y ≡ 0) × (out_of_turn (sight c) y y.thread.phase ≡ 0) × (old_word (sight c) y y.thread.phase ≡ 0) × (over_passed (sight c) (away (sight c)) y ≡ 0)
  step_told y among ne =
      let three = all_told k c (Own t) (Written k p t) coherent p a aside y among ne in
      (three.0, three.1, three.2, of_thread k c (Own t) (Written k p t) coherent p a aside away_at away_told y among ne)

-- an event leaves the code and the options
pub same_settings : (k : Cluster) (e : Event) → Gives (λ (d : Cluster × EntryView). (d.0.code ≡ k.code) × (d.0.options ≡ k.options)) (apply k e)
same_settings k e =
    then_gives (λ (d : Cluster × EntryView). (d.0.code ≡ k.code) × (d.0.options ≡ k.options)) (server_at k.servers e.server) _ (λ s here.
    map_gives (λ (d : Cluster × EntryView). (d.0.code ≡ k.code) × (d.0.options ≡ k.options)) (done_at k e.what s) _ (λ r q. (refl, refl)))

module _ (k : Cluster) (e : Event) (t : ℕ) (is : e.what ≡ Step t) (coherent : IsCoherent k) (few : FewEvents k) where
  abbrev Others : Cluster × EntryView → Type 0
  Others d = (y : Standing) → Among y (sight d.0).ground.threads → (y.thread.number ≡ t → ⊥) → (lost_place (sight d.0) y ≡ 0) × (out_of_turn (sight d.0) y y.thread.phase ≡ 0) × (old_word (sight d.0) y y.thread.phase ≡ 0) × (over_passed (sight d.0) (away (sight d.0)) y ≡ 0)

  abbrev Settings : Cluster × EntryView → Type 0
  Settings d = (d.0.code ≡ k.code) × (d.0.options ≡ k.options)

  abbrev New : Cluster × EntryView → Type 0
  New d = tot (newly k) (threads_in (things_of d.0)) ≡ 0

  abbrev Early : Cluster × EntryView → Type 0
  Early d = Holds d.0 passed_in_a_walk

  abbrev Rest : Cluster × EntryView → Type 0
  Rest d = Settings d × (New d × Early d)

  rest : Gives Rest (apply k e)
  rest =
      both_give Settings (λ d. New d × Early d) Rest (apply k e) (same_settings k e)
      (both_give New Early (λ d. New d × Early d) (apply k e) (new_ones k coherent.sound e (step_quiet k e t is) few) (passed_kept k e coherent.sound few) (λ d a b. (a, b))) (λ d a b. (a, b))

  others : Gives Others (apply k e)
  others =
      both_give Rest (Known k e coherent few) Others (apply k e) rest (known k e coherent few)
      (λ d a b y among ne. step_told k d.0 t coherent (b.1 t is).0 (b.1 t is).1 (record { code = a.0.0; options = a.0.1; places = b.0; lasts = step_lasts k d.0 (b.1 t is).0 t (b.1 t is).1; new = a.1.0; walks = a.1.1 }) y among ne)

pub others_followed : OthersStepsKeep lost_place
others_followed k e t is coherent few = weaker (Others k e t is coherent few) (λ (d : Cluster × EntryView). (x : Standing) → Among x (sight d.0).ground.threads → (x.thread.number ≡ t → ⊥) → lost_place (sight d.0) x ≡ 0) (apply k e) (others k e t is coherent few) (λ d f x among ne. (f x among ne).0)

pub others_wait : OthersStepsKeep (λ s x. out_of_turn s x x.thread.phase)
others_wait k e t is coherent few =
    weaker (Others k e t is coherent few) (λ (d : Cluster × EntryView). (x : Standing) → Among x (sight d.0).ground.threads → (x.thread.number ≡ t → ⊥) → out_of_turn (sight d.0) x x.thread.phase ≡ 0) (apply k e) (others k e t is coherent few)
    (λ d f x among ne. (f x among ne).1)

pub others_taken : OthersStepsKeep (λ s x. old_word s x x.thread.phase)
others_taken k e t is coherent few =
    weaker (Others k e t is coherent few) (λ (d : Cluster × EntryView). (x : Standing) → Among x (sight d.0).ground.threads → (x.thread.number ≡ t → ⊥) → old_word (sight d.0) x x.thread.phase ≡ 0) (apply k e) (others k e t is coherent few)
    (λ d f x among ne. (f x among ne).2)

pub others_passed : OthersStepsKeep (λ s x. over_passed s (away s) x)
others_passed k e t is coherent few =
    weaker (Others k e t is coherent few) (λ (d : Cluster × EntryView). (x : Standing) → Among x (sight d.0).ground.threads → (x.thread.number ≡ t → ⊥) → over_passed (sight d.0) (away (sight d.0)) x ≡ 0) (apply k e) (others k e t is coherent few)
    (λ d f x among ne. (f x among ne).3)
