-- The deliveries with which an object leaves: a `move` and a `drop`. Its address gets a later next colour than that of its word, or is retired, so what was issued there is.
use Rattle.std.proofs.Common.{◌≡◌, ℕ, ◌+◌, ◌≤◌, ◌&&◌, Bool, true, false, nat_lt, nat_le, if◌then◌else◌, List, ◌∷◌, Some, None, refl, ap, ◌∙◌, arith}
use Rattle.std.specs.List.{AllByRecursion}
use Rattle.std.proofs.lemmas.Bool.Decides.{nat_tests}
use Rattle.law_walks_own.specs.Below.fr_base.declared.name.ObjNo.{ObjNo}
use Rattle.law_walks_own.specs.Below.global_addr.Words.{colour_of, address_of}
use Rattle.law_walks_own.specs.Below.heap_partition.declared.value.Cell.{Cell}
use Rattle.law_walks_own.specs.Below.law_walks_others.Below.owner_box.View.{PartitionState}
use Rattle.law_walks_own.specs.Below.law_walks_others.Below.owner_box.Partition.{freed}
use Rattle.law_walks_own.specs.Below.journal.declared.act.Act.TheVariants as act
use Rattle.law_walks_own.specs.Below.server_msgs.declared.message.Message.TheVariants as message
use Rattle.law_walks_own.specs.Below.server_model.Servers.{Rest}
use Rattle.law_walks_own.specs.Below.server_model.Work.{Work, note, with_partition, look_object}
use Rattle.law_walks_own.specs.Below.server_model.Objects.{deliver_move, deliver_drop}
use Rattle.law_walks_own.specs.Below.coherent_memory.Names.{tot, one}
use Rattle.law_walks_own.specs.Below.coherent_memory.Things.{lies, vacant, retired, is_free, partition_things}
use Rattle.law_walks_own.specs.Below.coherent_memory.Sight.{Pointer, is_spot, colour_up_to, word_of_object}
use Rattle.law_walks_own.specs.Below.law_counts_sums.Laws.{Gives}
use Rattle.law_walks_own.proofs.Below.law_counts_sums.Results.{map_gives}
use Rattle.law_walks_own.proofs.Below.law_counts_sums.Cells.{left_by, looked, frees}
use Rattle.law_walks_own.proofs.Below.law_counts_sums.ObjectMessages.{looked_object}
use Rattle.law_walks_own.proofs.Below.law_counts_sums.Known.{all_set}
use Rattle.law_walks_own.proofs.Below.law_counts_things.names.Fit.{CellFits, FreeFits, Base, RestFits}
use Rattle.law_walks_own.proofs.Below.law_counts_things.names.Middle.{object_fits}
use Rattle.law_words_issued.proofs.stands.Addresses.{same_itself}
use Rattle.law_words_issued.proofs.stands.Words.{only}
use Rattle.law_words_issued.proofs.stands.Hands.{Kept, says_fits, gives_up}
use Rattle.law_words_issued.proofs.stands.Issued.{issuing}

module _ (g : ℕ → ℕ) (b : Base) where
  -- an object leaves
  freed_rest : (v : ℕ) (r : Rest) → RestFits (only g) b r → Kept (only g) b (freed r.partition v) (record r { partition = freed r.partition v })
  freed_rest v r k =
      let part = k.partition in (
        record {
          numbered = k.numbered;
          begun = k.begun;
          made_so = k.made_so;
          homed = k.homed;
          partition = record {
            cells_fit = all_set (Gives (CellFits (only g))) r.partition.cells (address_of v) None part.cells_fit tt;
            free_fit = by (nat_lt (colour_of v + 1) r.partition.limit);
            small = part.small;
            limited = part.limited;
          };
          copies = k.copies;
          mutexes = k.mutexes;
          tasks = k.tasks;
          waiting = k.waiting;
          leaving = k.leaving;
        },
        same_itself (freed r.partition v),
      )
    where
      by : (q : Bool) → AllByRecursion (FreeFits (only g)) (if q then (address_of v, colour_of v + 1) ∷ r.partition.free else r.partition.free)
      by true = ((omega arith, refl), (let part = k.partition in part.free_fit))
      by false = let part = k.partition in part.free_fit

  -- and was there
  abbrev pub Left : PartitionState → ℕ → ObjNo → Rest → Type 0
  Left p v o r = Kept (only g) b (freed p v) r × ((c : Cell) × (look_object p v o ≡ Some c))

  pub moves : (v : ℕ) (o : ObjNo) (s t : ℕ) (x : Work) → g v ≡ 0 → RestFits (only g) b x.rest → Gives (λ (y : Work). Left x.rest.partition v o y.rest) (deliver_move v o s t x)
  moves v o s t x z a =
      let part = a.partition in
      map_gives (λ (y : Work). Left x.rest.partition v o y.rest) (look_object x.rest.partition v o) _ (λ c q.
      let cell = object_fits (only g) x.rest.partition v o c q part.cells_fit in
      (says_fits (only g) b (freed x.rest.partition v) s (message.Moved v c t) (record x.rest { partition = freed x.rest.partition v }) (omega (arith, z, cell)) (freed_rest v x.rest a), (c, q)))

  pub drops : (v : ℕ) (o : ObjNo) (x : Work) → RestFits (only g) b x.rest → Gives (λ (y : Work). Left x.rest.partition v o y.rest) (deliver_drop v o x)
  drops v o x a =
      let part = a.partition in
      map_gives (λ (y : Work). Left x.rest.partition v o y.rest) (look_object x.rest.partition v o) _ (λ c q.
      let cell = object_fits (only g) x.rest.partition v o c q part.cells_fit in
      (gives_up (only g) b (freed x.rest.partition v) c.value (note (act.Free o v) (with_partition (freed x.rest.partition v) x)) (omega (arith, cell)) (freed_rest v x.rest a), (c, q)))

-- WHAT WAS ISSUED THERE

-- it was issued up to the word of the object, so below the next colour, and below the limit
module _ (colours : ℕ) (ps : List Pointer) (w : ℕ) where
  up : (v : ℕ) → nat_lt (colour_of v) colours ≡ true → (q : Bool) → q ≡ true → nat_le (colour_of w) (colour_of v) ≡ true → (nat_lt (colour_of w) (colour_of v + 1) ≡ true) × (nat_lt (colour_of w) colours ≡ true)
  up v low q e le = (grind (arith, nat_tests, le), grind (arith, nat_tests, le, low))

  stays_issued : (n limit v : ℕ) (c : Cell) → word_of_object ps c.object ≡ Some v → nat_lt (colour_of v) colours ≡ true → issuing colours ps w (lies n (address_of v) c) ≤ issuing colours ps w (left_by n limit v)
  stays_issued n limit v c told low = by (nat_lt (colour_of v + 1) limit) (is_spot n (address_of v) w) (nat_le (colour_of w) (colour_of v)) refl refl
    where
      here : (p q : Bool) → is_spot n (address_of v) w ≡ p → nat_le (colour_of w) (colour_of v) ≡ q → issuing colours ps w (lies n (address_of v) c) ≡ one (p && q)
      here p q e f = ap (λ o. one (is_spot n (address_of v) w && colour_up_to o w)) told ∙ ap (λ x. one (x && nat_le (colour_of w) (colour_of v))) e ∙ ap (λ x. one (p && x)) f

      by : (l p q : Bool) → is_spot n (address_of v) w ≡ p → nat_le (colour_of w) (colour_of v) ≡ q
          → issuing colours ps w (lies n (address_of v) c) ≤ issuing colours ps w (if l then vacant n (address_of v) (colour_of v + 1) else retired n (address_of v))
      by l false q e f = omega (arith, here false q e f)
      by l true false e f = omega (arith, here true false e f)
      by true true true e f =
          let u = up v low true refl f in
          let there : issuing colours ps w (vacant n (address_of v) (colour_of v + 1)) ≡ 1 = ap (λ x. one (x && nat_lt (colour_of w) (colour_of v + 1))) e ∙ ap one u.0 in
          omega (arith, here true true e f, there)
      by false true true e f =
          let u = up v low true refl f in
          let there : issuing colours ps w (retired n (address_of v)) ≡ 1 = ap (λ x. one (x && nat_lt (colour_of w) colours)) e ∙ ap one u.1 in
          omega (arith, here true true e f, there)

  -- so a partition that an object leaves keeps what it had issued
  pub freed_issued : (n : ℕ) (p : PartitionState) (v : ℕ) (o : ObjNo) (c : Cell) → look_object p v o ≡ Some c → is_free (address_of v) p.free ≡ false → word_of_object ps o ≡ Some v → nat_lt (colour_of v) colours ≡ true
      → tot (issuing colours ps w) (partition_things n p) ≤ tot (issuing colours ps w) (partition_things n (freed p v))
  freed_issued n p v o c q free told low =
      let at = looked_object p v o c q in
      let t = frees n p v c (looked p v c at.0) free in
      omega (arith, t.before (issuing colours ps w), t.after (issuing colours ps w), stays_issued n p.limit v c (ap (word_of_object ps) at.1 ∙ told) low)
