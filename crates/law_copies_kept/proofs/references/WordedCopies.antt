-- Copies are right where one object gets a word that wasn't issued and a copy of it is asked for.
use Rattle.std.proofs.Common.{◌≡◌, ℕ, ◌==◌, Bool, true, false, if◌then◌else◌, List, [], ◌∷◌, Option, Some, None, refl, sym, ap, subst, arith}
use Rattle.std.proofs.lemmas.Bool.{eq-eqb}
use Rattle.std.specs.Prelude.{option_map, length, take, drop as drop_first}
use Rattle.law_words_borrows.specs.Below.fr_base.declared.name.ObjNo.{ObjNo}
use Rattle.law_words_borrows.specs.Below.heap_partition.declared.value.Cell.{Cell}
use Rattle.law_words_borrows.specs.Below.journal.View.{EntryView}
use Rattle.law_words_borrows.specs.Below.server_msgs.declared.message.Message.{Message}
use Rattle.law_words_borrows.specs.Below.server_msgs.declared.message.Message.TheVariants as message
use Rattle.law_words_borrows.specs.Below.server_model.declared.event.Event.{Event}
use Rattle.law_words_borrows.specs.Below.server_model.declared.event.What.TheVariants.{Step}
use Rattle.law_words_borrows.specs.Below.server_model.Servers.{Server, Cluster, server_at}
use Rattle.law_words_borrows.specs.Below.server_model.Work.{then_some}
use Rattle.law_words_borrows.specs.Below.server_model.Events.{enabled, does}
use Rattle.law_words_borrows.specs.Below.server_model.Clusters.{with_server, hand_over_newer, done_at, apply}
use Rattle.law_words_borrows.specs.Below.coherent_memory.Names.{Among, tot}
use Rattle.law_words_borrows.specs.Below.coherent_memory.Things.{Thing, sent, things_of}
use Rattle.law_words_borrows.specs.Below.coherent_memory.Follow.{cells_in}
use Rattle.law_words_borrows.specs.Below.coherent_memory.Sight.{is_object_among, sight, issued}
use Rattle.law_words_borrows.specs.Below.coherent_memory.Placing.{unclean, unclean_request}
use Rattle.law_words_borrows.specs.Below.coherent_memory.Coherent.{IsSound, Holds, copies_agree}
use Rattle.law_copies_kept.specs.Below.law_words_paths.words.Reworded.{HasPlaces}
use Rattle.law_words_borrows.specs.Below.law_counts_sums.Laws.{Gives, GoTo, FewEvents}
use Rattle.law_words_borrows.proofs.Below.law_counts_sums.Results.{test_gives, both_give}
use Rattle.law_words_borrows.proofs.Below.law_counts_sums.Applied.{go_with}
use Rattle.law_words_borrows.proofs.Below.law_counts_sums.Sending.{each_event_sends}
use Rattle.law_copies_kept.proofs.Below.law_counts_things.things.Messages.{on_sent}
use Rattle.law_copies_kept.proofs.Below.law_words_kept.stays.Alike.{Alike}
use Rattle.law_copies_kept.proofs.Below.law_words_kept.stays.Sites.{handed_over}
use Rattle.law_copies_kept.proofs.Below.law_words_values.carried.Hands.{ThereBy}
use Rattle.law_copies_kept.specs.copies.Copies.{CellsGoOn, CopiesAreRight}
use Rattle.law_copies_kept.proofs.copies.Clean.{Leaves, all_goes}
use Rattle.law_copies_kept.proofs.copies.KeptCopies.{come_from_copies}
use Rattle.law_copies_kept.proofs.references.Asked.{asking}
use Rattle.law_copies_kept.proofs.references.Kept.{has_none, none_before, places_after}
use Rattle.law_copies_kept.proofs.references.Worded.{Worded, has_none_but, cells_go_on, asked_clean}

-- WHAT GOES ON WHERE WORDS, CELLS AND CHANGED REFERENCES STAY

module _ (P : Cluster → Type 0) (go : (a b : Cluster) → P a → Leaves a b → P b) where
  handed : (k : Cluster) (s : Server) → server_at k.servers s.rest.number ≡ Some s → (o : Option (Server × EntryView)) → Gives (ThereBy (λ a b. P b) k s) o
      → Gives (λ (r : Server × EntryView). GoTo (with_server k.servers s.rest.number r.0) (drop_first (length s.rest.outbox) r.0.rest.outbox)) o
      → Gives (λ (d : Cluster × EntryView). HasPlaces d.0 → P d.0) (option_map (λ r. (record k { servers = hand_over_newer s.rest.number (length s.rest.outbox) r.0 k.servers }, r.1)) o)
  handed k s here None a g = tt
  handed k s here (Some r) a g = λ q.
      let n = s.rest.number in
      let older = length s.rest.outbox in
      let mid : Cluster = record k { servers = with_server k.servers n r.0 } in
      let end : Cluster = record k { servers = hand_over_newer n older r.0 k.servers } in
      let alike : Alike k.code (things_of mid) (things_of end) = handed_over n older s r.0 k.servers here (go_with k.servers n r.0 (take older r.0.rest.outbox) (drop_first older r.0.rest.outbox) g) in
      go mid end a.0 (all_goes.seen mid end a.1 q refl alike)

  -- holds once messages are handed over, where it holds with the server put back
  pub then_holds : (k : Cluster) (s : Server) (t : ℕ) → IsSound k → FewEvents k → server_at k.servers s.rest.number ≡ Some s → (enabled k.options s (Step t) ≡ true → Gives (ThereBy (λ a b. P b) k s) (does k.code k.options s (Step t)))
      → Gives (λ (d : Cluster × EntryView). P d.0) (apply k (record { server = s.rest.number; what = Step t }))
  then_holds k s t sound few h f =
      both_give (λ (d : Cluster × EntryView). HasPlaces d.0 → P d.0) (λ (d : Cluster × EntryView). HasPlaces d.0) (λ (d : Cluster × EntryView). P d.0) (apply k (record { server = s.rest.number; what = Step t }))
      (subst (λ o. Gives (λ (d : Cluster × EntryView). HasPlaces d.0 → P d.0) (then_some o (λ x. option_map (λ d. (record k { servers = hand_over_newer s.rest.number (length x.rest.outbox) d.0 k.servers }, d.1)) (done_at k (Step t) x)))) (sym h)
      (handed k s h (done_at k (Step t) s) (test_gives (ThereBy (λ a b. P b) k s) (enabled k.options s (Step t)) (does k.code k.options s (Step t)) f) (each_event_sends k (record { server = s.rest.number; what = Step t }) sound few s h)))
      (places_after k (record { server = s.rest.number; what = Step t }) sound few) (λ d a c. a c)

-- REQUESTS

zero_on : (f g : Thing → ℕ) → ((x : Thing) → f x ≡ 0 → g x ≡ 0) → (b : List Thing) → tot f b ≡ 0 → tot g b ≡ 0
zero_on f g go [] e = refl
zero_on f g go (x ∷ b) e =
    let first : f x ≡ 0 = omega (arith, e) in
    let later : tot f b ≡ 0 = omega (arith, e) in
    omega (arith, go x first, zero_on f g go b later)

none_but : (k : Cluster) (w v : ℕ) → has_none k v ≡ 0 → has_none_but k w v ≡ 0
none_but k w v e = by (w == v)
  where
    by : (b : Bool) → (if b then 0 else has_none k v) ≡ 0
    by true = refl
    by false = e

-- the new word itself may be asked for
pub new_asked : (k : Cluster) (w : ℕ) → has_none_but k w w ≡ 0
new_asked k w = ap (λ b. if b then 0 else has_none k w) (eq-eqb w w refl)

-- before, requests were for clean ones
pub none_but_before : (k : Cluster) (w : ℕ) → IsSound k → tot (on_sent (asking (has_none_but k w))) (things_of k) ≡ 0
none_but_before k w sound = zero_on (on_sent (asking (has_none k))) (on_sent (asking (has_none_but k w))) each (things_of k) (none_before k sound)
  where
    by : (n : ℕ) (m : Message) → asking (has_none k) n m ≡ 0 → asking (has_none_but k w) n m ≡ 0
    by n (message.Fetched v c t) e = none_but k w v e
    by n (message.Fetch v o r t) e = none_but k w v e
    by n m e = refl

    each : (x : Thing) → on_sent (asking (has_none k)) x ≡ 0 → on_sent (asking (has_none_but k w)) x ≡ 0
    each (sent n m) e = by n m e
    each x e = refl

-- COPIES ARE RIGHT

module _ (k : Cluster) (e : Event) (sound : IsSound k) (few : FewEvents k) (o : ObjNo) (w : ℕ) (fresh : issued (sight k) w ≡ false) (dirty : is_object_among o (sight k).dirty ≡ true) (its : (c : Cell) × Among c (cells_in (things_of k)) × (c.object ≡ o)) where
  abbrev IsWorded : Cluster → Type 0
  IsWorded z = Worded k z o w sound.words.have_words

  clean_after : (z : Cluster) → HasPlaces z → IsWorded z → tot (on_sent (asking (has_none_but k w))) (things_of z) ≡ 0 → tot (unclean (sight z)) (things_of z) ≡ 0
  clean_after z places u none = zero_on (on_sent (asking (has_none_but k w))) (unclean (sight z)) each (things_of z) none
    where
      by : (n : ℕ) (m : Message) → asking (has_none_but k w) n m ≡ 0 → unclean_request (sight z) m ≡ 0
      by n (message.Fetched v c t) a = asked_clean k z sound places o w u fresh dirty its v a
      by n (message.Fetch v p r t) a = asked_clean k z sound places o w u fresh dirty its v a
      by n m a = refl

      each : (x : Thing) → on_sent (asking (has_none_but k w)) x ≡ 0 → unclean (sight z) x ≡ 0
      each (sent n m) a = by n m a
      each x a = refl

  pub worded_right : Gives (λ (d : Cluster × EntryView). IsWorded d.0) (apply k e) → Gives (λ (d : Cluster × EntryView). tot (on_sent (asking (has_none_but k w))) (things_of d.0) ≡ 0) (apply k e) → Gives (λ (d : Cluster × EntryView). CopiesAreRight d.0) (apply k e)
  worded_right is_so asked =
      both_give WithPlaces Both (λ (d : Cluster × EntryView). CopiesAreRight d.0) (apply k e)
      (both_give (λ (d : Cluster × EntryView). IsWorded d.0) (λ (d : Cluster × EntryView). HasPlaces d.0) WithPlaces (apply k e) is_so (places_after k e sound few) (λ d a b. (a, b)))
      (both_give (λ (d : Cluster × EntryView). CellsGoOn k d.0 → Holds d.0 copies_agree) (λ (d : Cluster × EntryView). tot (on_sent (asking (has_none_but k w))) (things_of d.0) ≡ 0) Both (apply k e) (come_from_copies k e sound few) asked (λ d a b. (a, b)))
      (λ d a both. record { agree = both.0 (cells_go_on k d.0 sound a.1 o w a.0 fresh); clean = clean_after d.0 a.1 a.0 both.1 })
    where
      WithPlaces : Cluster × EntryView → Type 0
      WithPlaces d = IsWorded d.0 × HasPlaces d.0

      Both : Cluster × EntryView → Type 0
      Both d = (CellsGoOn k d.0 → Holds d.0 copies_agree) × (tot (on_sent (asking (has_none_but k w))) (things_of d.0) ≡ 0)
