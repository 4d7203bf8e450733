-- An object leaves: its wish goes, it flies under the word that it had, and its address is free with the next colour, or retired.
use Rattle.std.proofs.Common.{◌≡◌, ℕ, ◌+◌, ◌==◌, ◌&&◌, Bool, true, false, nat_lt, if◌then◌else◌, List, [], ◌∷◌, length, Option, Some, None, is_some, option_map, refl, sym, ap, ap₂, subst, ◌∙◌, arith, append-nil}
use Rattle.std.proofs.lemmas.Bool.Decides.{nat_tests}
use Rattle.std.specs.Prelude.{nat_le, slice_get}
use Rattle.law_entries_variables.specs.Below.fr_base.declared.name.ObjNo.{ObjNo}
use Rattle.law_entries_variables.specs.Below.fr_base.declared.label.Plain.{Plain}
use Rattle.law_entries_variables.specs.Below.global_addr.Words.{colour_of, server_of, address_of}
use Rattle.law_entries_variables.specs.Below.heap_partition.Plain.{plain_of}
use Rattle.law_entries_variables.specs.Below.heap_partition.declared.value.Cell.{Cell}
use Rattle.law_entries_variables.specs.Below.owner_box.View.{PartitionState}
use Rattle.law_entries_variables.specs.Below.owner_box.Partition.{freed, cell_of}
use Rattle.law_entries_variables.specs.Below.server_msgs.declared.message.Message.TheVariants as message
use Rattle.law_entries_variables.specs.Below.journal.declared.act.Act.TheVariants as act
use Rattle.law_entries_variables.specs.Below.server_model.Servers.{Server, Cluster, server_at}
use Rattle.law_entries_variables.specs.Below.server_model.Work.{Work, Site, note, send, with_partition, leads_here, look, look_object}
use Rattle.law_entries_variables.specs.Below.server_model.Events.{received, deliver_message}
use Rattle.law_entries_variables.specs.Below.server_model.Objects.{deliver_move}
use Rattle.law_entries_variables.specs.Below.coloured_heap.Heap.{Place, Lies, Flies, Living, Wish, ForObject, Coloured, same_wish, is_object}
use Rattle.law_entries_variables.proofs.Below.coloured_heap.ShownNames.{object_flip}
use Rattle.law_entries_variables.specs.Below.coherent_memory.Names.{tot, one, some, same_object}
use Rattle.law_entries_variables.specs.Below.coherent_memory.Things.{Thing, lies, flies, sent, vacant, retired, is_free, message_things, things_of}
use Rattle.law_entries_variables.specs.Below.coherent_memory.Sight.{is_word, colour_up_to, is_spot, sight, word, issued}
use Rattle.law_entries_variables.specs.Below.coherent_memory.Weights.{is_thread, lies_under}
use Rattle.law_entries_variables.specs.Below.coherent_memory.Placing.{sum_over}
use Rattle.law_entries_variables.specs.Below.coherent_memory.Walking.{sum_threads}
use Rattle.law_entries_variables.specs.Below.coherent_memory.Naming.{started_at, made_at, servers_wrong, pinned_parcel}
use Rattle.law_entries_variables.specs.Below.coherent_memory.Requests.{not_under, not_there}
use Rattle.law_entries_variables.specs.Below.coherent_memory.OneHeap.{first_shown}
use Rattle.law_entries_variables.specs.Below.coherent_memory.Words.{HasWords}
use Rattle.law_entries_variables.specs.Below.coherent_memory.Colours.{StandsColoured, living_of}
use Rattle.law_entries_variables.specs.Below.coherent_memory.Coherent.{IsSound}
use Rattle.law_entries_variables.proofs.Below.coherent_memory.Names.{and_left, and_right}
use Rattle.law_copies_kept.specs.Below.coherent_types.ClusterTypes.{IsCoherent}
use Rattle.law_entries_variables.specs.Below.law_counts_sums.Laws.{Gives}
use Rattle.law_entries_variables.proofs.Below.law_counts_sums.Askers.{other_none}
use Rattle.law_entries_variables.proofs.Below.law_counts_sums.Bags.{of_partition}
use Rattle.law_entries_variables.proofs.Below.law_counts_sums.Cells.{left_by, looked, frees}
use Rattle.law_entries_variables.proofs.Below.law_counts_sums.ObjectMessages.{looked_object}
use Rattle.law_entries_variables.proofs.Below.law_counts_sums.Results.{over_gives, map_gives}
use Rattle.law_entries_variables.proofs.Below.law_heap_still.events.Addresses.{in_place, lies_alone}
use Rattle.law_entries_variables.proofs.Below.law_heap_still.events.Leaving.{others, placed_here}
use Rattle.law_entries_variables.proofs.Below.law_heap_still.events.Tests.{numbers, objects}
use Rattle.law_entries_variables.proofs.Below.law_heap_still.events.Told.{told}
use Rattle.law_entries_variables.specs.Below.law_words_paths.words.Unmoved.{WordsStay}
use Rattle.law_copies_kept.proofs.copies.Clean.{told as word_of}
use Rattle.law_copies_kept.proofs.Below.law_counts_things.names.Named.{placed as placed_parts}
use Rattle.law_entries_variables.proofs.deliveries.Answers.{answers_of, fits}
use Rattle.law_entries_variables.proofs.deliveries.Weighed.{WorkTurns, beside, sends}
use Rattle.law_entries_variables.proofs.deliveries.Shown.{if_some, placed_in, dropped_by, as_living, living_is, copy_in, served_in, wished_in, runs, there_in, holder_by}
use Rattle.law_entries_variables.proofs.deliveries.Live.{dropped_seen, placed_after, word_kept, issued_by, issued_still as issued_stays}
use Rattle.law_entries_variables.proofs.deliveries.After.{Follows, Keeps, living_still, copy_still, served_still}
use Rattle.law_entries_variables.proofs.deliveries.Runs.{silent, runs_one, leads_on}
use Rattle.law_entries_variables.proofs.deliveries.Applied.{Legal, server_there}
use Rattle.law_entries_variables.proofs.deliveries.Changed.{notes, message_there}
use Rattle.law_entries_variables.proofs.deliveries.Partly.{wish_answered, wished_once}
use Rattle.law_entries_reads.proofs.served.Acts.{flown, giving, give_allowed}
use Rattle.law_entries_reads.proofs.served.Kept.{own_cell}
use Rattle.law_entries_reads.proofs.served.Wanted.{move_of, wanted_kept}
use Rattle.law_entries_reads.proofs.served.Beside.{ObjectsOnly, objects_agree}
use Rattle.law_entries_reads.proofs.served.Lying.{word_told, has_cell, placed, living, its_object}

-- at most a colour is below the next one
pub up_to : (i j : ℕ) → nat_le i j ≡ nat_lt i (j + 1)
up_to i j = by (nat_le i j) (nat_lt i (j + 1)) refl refl
  where
    by : (a b : Bool) → nat_le i j ≡ a → nat_lt i (j + 1) ≡ b → a ≡ b
    by true true p q = refl
    by false false p q = refl
    by true false p q = absurd (grind (arith, nat_tests, p, q))
    by false true p q = absurd (grind (arith, nat_tests, p, q))

-- a word that is looked up has a colour below the limit
pub below_limit : (p : PartitionState) (w : ℕ) (c : Cell) → look p w ≡ Some c → nat_lt (colour_of w) p.limit ≡ true
below_limit p w c e = by (leads_here p w) refl e
  where
    by : (b : Bool) → leads_here p w ≡ b → (if b then cell_of p w else None) ≡ Some c → nat_lt (colour_of w) p.limit ≡ true
    by true q f = and_right ((server_of w == p.server) && is_some (cell_of p w)) (nat_lt (colour_of w) p.limit) q
    by false q f = absurd (cc f)

-- the last colour below the limit
pub last_colour : (i limit : ℕ) → nat_lt i limit ≡ true → nat_lt (i + 1) limit ≡ false → limit ≡ i + 1
last_colour i limit a b = grind (arith, nat_tests, a, b)

module _ (k : Cluster) (coherent : IsCoherent k) (number : ℕ) (s : Server) (here : server_at k.servers number ≡ Some s) (c0 : Coloured) (is_coloured : StandsColoured k c0) (i w : ℕ) (o : ObjNo) (a t : ℕ) (at : slice_get s.rest.inbox i ≡ Some (message.Move w o a t)) where
  abbrev sound : IsSound k
  sound = coherent.sound

  abbrev n : ℕ
  n = s.rest.number

  abbrev p : PartitionState
  p = s.rest.partition

  abbrev x : Site
  x = received i s

  abbrev wish : Wish
  wish = ForObject o w a

  named : is_word (word (sight k) o) w ≡ true
  named =
      let z : tot (not_there (sight k)) (things_of k) ≡ 0 = sound.requests.objects_there in
      let mine : not_under (sight k) w o ≡ 0 = omega (arith, z, message_there k number s here i (message.Move w o a t) at (not_there (sight k))) in
      and_left (is_word (word (sight k) o) w) (some (sum_over (sight k) (lies_under w o))) (other_none _ mine)

  kept : tot (dropped_by o) (things_of k) ≡ 0
  kept =
      let mine : one (w == w && same_object o o) ≡ 1 = ap₂ (λ (b d : Bool). one (b && d)) (numbers.itself w) (objects.itself o) in
      wanted_kept k coherent w o (omega (arith, mine, message_there k number s here i (message.Move w o a t) at (move_of w o)))

  limit_is : p.limit ≡ k.options.colours
  limit_is =
      let parts : servers_wrong (sight k) 0 k.servers + sum_threads (sight k) pinned_parcel ≡ 0 = sound.parts.parts_are_typed in
      (placed_parts (sight k) 0 number k.servers s (omega (arith, parts)) here).0

  module _ (c : Cell) (q : look_object s.rest.partition w o ≡ Some c) where
    cell_at : slice_get p.cells (address_of w) ≡ Some (Some c)
    cell_at = looked p w c (looked_object p w o c q).0

    abbrev spot : Thing
    spot = lies n (address_of w) c

    abbrev left : Thing
    left = left_by n p.limit w

    abbrev olds : List Thing
    olds = sent n (message.Move w o a t) ∷ spot ∷ []

    abbrev news : List Thing
    news = left ∷ sent a (message.Moved w c t) ∷ flies w c ∷ []

    abbrev away : Work
    away = with_partition (freed p w) x.work

    leaves : WorkTurns x.work (spot ∷ []) (left ∷ []) [] away
    leaves = record {
      number = refl;
      noted = sym (append-nil x.work.acts);
      labels = refl;
      things = λ f h.
          let r = x.work.rest in
          let free : is_free (address_of w) p.free ≡ false = lies_alone n p (in_place n s.events s.rest (others k sound number s here) (placed_here k sound number s here)) (address_of w) c cell_at in
          let u = of_partition n 0 r (freed p w) (frees n p w c cell_at free) in
          omega (arith, u.before f, u.after f, h.counted n (length p.cells) p.retired r.started r.mutexes.made 0, h.counted n (length (freed p w).cells) (freed p w).retired r.started r.mutexes.made 0);
    }

    left_none : (f : Thing → ℕ) → ((r b m : ℕ) → f (vacant r b m) ≡ 0) → ((r b : ℕ) → f (retired r b) ≡ 0) → f left ≡ 0
    left_none f v u = by (nat_lt (colour_of w + 1) p.limit)
      where
        by : (b : Bool) → f (if b then vacant n (address_of w) (colour_of w + 1) else retired n (address_of w)) ≡ 0
        by true = v n (address_of w) (colour_of w + 1)
        by false = u n (address_of w)

    only : ObjectsOnly k olds news
    only = record {
      started = λ r j. omega (arith, left_none (started_at r j) (λ e g m. refl) (λ e g. refl));
      made = λ r j. omega (arith, left_none (made_at r j) (λ e g m. refl) (λ e g. refl));
      threads = λ u. omega (arith, left_none (is_thread u) (λ e g m. refl) (λ e g. refl));
      running = λ u j. omega (arith, left_none (runs j u) (λ e g m. refl) (λ e g. refl));
      there = λ m. omega (arith, left_none (there_in m) (λ e g j. refl) (λ e g. refl));
      holders = λ m j. omega (arith, left_none (λ y. told j (holder_by (sight k) m y)) (λ e g h. refl) (λ e g. refl));
    }

    less : (b : Wish) → tot (wished_in b) olds ≡ tot (wished_in b) news + one (same_wish b wish)
    less b = omega (arith, left_none (wished_in b) (λ e g m. refl) (λ e g. refl))

    abbrev living_one : Living
    living_one = record { object = o; place = Lies n; word = w; value = plain_of c.value; is_condemned = false }

    object_is : c.object ≡ o
    object_is = (looked_object p w o c q).1

    -- WORDS THAT WERE ISSUED

    -- at its address the same words were issued
    same_issued : (h : ObjNo → ℕ) → h c.object ≡ w → (v : ℕ) → issued_by h k.options.colours v spot ≡ issued_by h k.options.colours v left
    same_issued h its v = by (nat_lt (colour_of w + 1) p.limit) refl
      where
        first : one (is_spot n (address_of w) v && colour_up_to (Some (h c.object)) v) ≡ one (is_spot n (address_of w) v && nat_lt (colour_of v) (colour_of w + 1))
        first = ap (λ z. one (is_spot n (address_of w) v && z)) (ap (λ u. nat_le (colour_of v) (colour_of u)) its ∙ up_to (colour_of v) (colour_of w))

        by : (b : Bool) → nat_lt (colour_of w + 1) p.limit ≡ b → one (is_spot n (address_of w) v && colour_up_to (Some (h c.object)) v) ≡ issued_by h k.options.colours v (if b then vacant n (address_of w) (colour_of w + 1) else retired n (address_of w))
        by true e = first
        by false e =
            first ∙ ap (λ z. one (is_spot n (address_of w) v && nat_lt (colour_of v) z)) (sym (last_colour (colour_of w) p.limit (below_limit p w c (looked_object p w o c q).0) e) ∙ limit_is)

    module _ (d : Cluster) (f : Follows k d olds news) (keeps : Keeps k d) where
      abbrev before : HasWords (sight k)
      before = sound.words.have_words

      abbrev stay : WordsStay (sight k) (sight d) before
      stay = keeps.words before

      its_word : before.word c.object ≡ w
      its_word =
          let own = own_cell k o (has_cell k sound number s here w o c q) in
          let its : word (sight k) o ≡ Some (before.word o) = subst (λ y. word (sight k) y ≡ Some (before.word y)) own.object (word_of k before own.cell own.among) in
          let both : Some (before.word o) ≡ Some w = sym its ∙ word_told (word (sight k) o) w named in
          ap before.word object_is ∙ cc

      words : (v : ℕ) → issued (sight k) v ≡ issued (sight d) v
      words v = issued_stays k d olds news f.things f.options before stay v (omega (arith, same_issued before.word its_word v))

      undropped : (y : ObjNo) → tot (dropped_by y) (things_of d) ≡ tot (dropped_by y) (things_of k)
      undropped y = omega (arith, f.things (dropped_by y) (dropped_seen y), left_none (dropped_by y) (λ e g m. refl) (λ e g. refl))

      -- THE OBJECT FLIES

      shows : (r : Place) (g : Plain × Place → ℕ) → told g (if_some (same_object c.object o) (plain_of c.value, r)) ≡ g (plain_of c.value, r)
      shows r g = ap (λ b. told g (if_some b (plain_of c.value, r))) (its_object k sound number s here w o c q)

      was : first_shown (placed_in o) (things_of k) ≡ Some (plain_of c.value, Lies n)
      was = placed k sound number s here w o c q

      there : first_shown (placed_in o) (things_of d) ≡ Some (plain_of c.value, Flies a)
      there =
          placed_after k d olds news f.things sound.one_home.home_of_each before stay o (Some (plain_of c.value, Flies a)) (λ g.
          let old : told g (first_shown (placed_in o) (things_of k)) ≡ g (plain_of c.value, Lies n) = ap (told g) was in
          omega (arith, old, shows (Lies n) g, shows (Flies a) g, left_none (λ y. told g (placed_in o y)) (λ e j m. refl) (λ e j. refl)))

      flying : living_of (sight d) o ≡ Some (flown a living_one)
      flying =
          living_is (sight d) o
          ∙ ap₂ (λ v m. option_map (as_living o v (some m)) (first_shown (placed_in o) (things_of d))) (word_kept k d olds news f.things sound.one_home.home_of_each before stay o (plain_of c.value, Lies n) (plain_of c.value, Flies a) was there ∙ word_told (word (sight k) o) w named) (undropped o ∙ kept)
          ∙ ap (option_map (as_living o (Some w) false)) there

      abbrev turned : Living → Living
      turned y = if is_object o y then flown a y else y

      its_turn : option_map turned (living_of (sight k) o) ≡ living_of (sight d) o
      its_turn = ap (option_map turned) (living k sound number s here w o c q named kept) ∙ ap (λ b. Some (if b then flown a living_one else living_one)) (objects.itself o) ∙ sym flying

      other_turn : (y : ObjNo) → same_object y o ≡ false → option_map turned (living_of (sight k) y) ≡ living_of (sight d) y
      other_turn y e =
          ap (option_map turned) (living_is (sight k) y) ∙ untouched (first_shown (placed_in y) (things_of k)) ∙ sym (living_is (sight k) y)
          ∙ living_still k d olds news sound f keeps y (λ g. omega (arith, none (Lies n) g, none (Flies a) g, left_none (λ z. told g (placed_in y z)) (λ e j m. refl) (λ e j. refl))) (omega (arith, left_none (dropped_by y) (λ e g m. refl) (λ e g. refl)))
        where
          none : (r : Place) (g : Plain × Place → ℕ) → told g (if_some (same_object c.object y) (plain_of c.value, r)) ≡ 0
          none r g = ap (λ b. told g (if_some b (plain_of c.value, r))) (ap (λ z. same_object z y) object_is ∙ object_flip o y ∙ e)

          untouched : (r : Option (Plain × Place)) → option_map turned (option_map (as_living y (word (sight k) y) (some (tot (dropped_by y) (things_of k)))) r) ≡ option_map (as_living y (word (sight k) y) (some (tot (dropped_by y) (things_of k)))) r
          untouched None = refl
          untouched (Some r) =
              let z = as_living y (word (sight k) y) (some (tot (dropped_by y) (things_of k))) r in
              ap (λ b. Some (if b then flown a z else z)) e

      objects_turn : (y : ObjNo) → option_map turned (living_of (sight k) y) ≡ living_of (sight d) y
      objects_turn y = by (same_object y o) refl
        where
          by : (b : Bool) → same_object y o ≡ b → option_map turned (living_of (sight k) y) ≡ living_of (sight d) y
          by true e = subst (λ z. option_map turned (living_of (sight k) z) ≡ living_of (sight d) z) (sym (objects.tells y o e)) its_turn
          by false e = other_turn y e

    abbrev given : Work
    given = send a (message.Moved w c t) (note (act.Give o w a) away)

    gives : Legal k s None (message_things n (message.Move w o a t)) x c0 (record x { work = given })
    gives = record {
      olds = spot ∷ [];
      news = news;
      acts = act.Give o w a ∷ [];
      turns = beside x (spot ∷ []) news (act.Give o w a ∷ []) given
          (sends x.work (spot ∷ []) (left ∷ []) (act.Give o w a ∷ []) (note (act.Give o w a) away) a (message.Moved w c t) (notes x.work (spot ∷ []) (left ∷ []) [] away (act.Give o w a) leaves));
      leads = λ d f keeps.
          let q0 = answers_of (sight k) in
          let h = fits (sight k) c0 is_coloured in
          let e = silent n None (act.Give o w a ∷ []) in
          let q1 = giving o w a q0 in
          leads_on k.options n None (act.Give o w a ∷ []) c0 q0 q1 d h (server_there k sound number s here).0 tt
          (runs_one k.options e (act.Give o w a) c0 q1
          (give_allowed k.options e c0 q0 o w a living_one h (living k sound number s here w o c q named kept) (numbers.itself w) refl (numbers.itself n) (wished_once k d olds news sound f wish less)))
          (objects_agree k d olds news sound f keeps only q1.object q1.copy q1.served q1.wishes (objects_turn d f keeps) (λ r v. copy_still k d olds news sound f r v (λ g. omega (arith, left_none (λ y. told g (copy_in r v y)) (λ e j m. refl) (λ e j. refl))))
          (λ b. served_still k d olds news sound f b (omega (arith, left_none (served_in b) (λ e j m. refl) (λ e j. refl)))) (words d f keeps) (wish_answered k d olds news sound f wish less));
    }

  pub move_legal : Gives (Legal k s None (message_things n (message.Move w o a t)) x c0) (deliver_message k.code (message.Move w o a t) x)
  move_legal =
      over_gives P (Legal k s None (message_things n (message.Move w o a t)) x c0) (deliver_move w o a t x.work) (λ y. record x { work = y })
      (map_gives P (look_object s.rest.partition w o) (λ c. send a (message.Moved w c t) (note (act.Give o w a) (with_partition (freed p w) x.work))) (λ c q. gives c q)) (λ y l. l)
    where
      P : Work → Type 0
      P y = Legal k s None (message_things n (message.Move w o a t)) x c0 (record x { work = y })
