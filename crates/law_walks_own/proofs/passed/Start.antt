-- The words that are good on the place that a thread writes: of a box that was passed before no copy is afterwards, nor under a word that wasn't issued.
use Rattle.std.proofs.Common.{◌≡◌, ℕ, ◌+◌, ◌<◌, ◌^◌, false, length, Some, None, refl, ap, ◌∙◌, arith}
use Rattle.std.proofs.lemmas.List.{length-set}
use Rattle.law_copies_kept.specs.Below.fr_base.declared.place.Lval.{Lval}
use Rattle.law_copies_kept.specs.Below.fr_base.declared.instruction.Instr.{Instr}
use Rattle.law_copies_kept.specs.Below.global_addr.Words.{colour_of, address_of, next_word}
use Rattle.law_copies_kept.specs.Below.heap_partition.declared.value.BoxPtr.{BoxPtr}
use Rattle.law_copies_kept.specs.Below.heap_partition.declared.value.Owned.TheVariants as owned
use Rattle.law_copies_kept.specs.Below.owner_box.View.{PartitionState}
use Rattle.law_copies_kept.specs.Below.owner_box.Partition.{freed, new_word, next_place}
use Rattle.law_copies_kept.specs.Below.thread_state.View.{ThreadState}
use Rattle.law_copies_kept.specs.Below.thread_state.declared.value.Value.TheVariants as value
use Rattle.law_copies_kept.specs.Below.server_model.Servers.{Server, Cluster}
use Rattle.law_copies_kept.specs.Below.coherent_memory.Names.{tot}
use Rattle.law_copies_kept.specs.Below.coherent_memory.Things.{Location, things_of}
use Rattle.law_copies_kept.specs.Below.coherent_memory.Follow.{Standing, value_in, value_behind, locate}
use Rattle.law_copies_kept.specs.Below.coherent_memory.Paths.{written_place}
use Rattle.law_copies_kept.specs.Below.coherent_memory.Sight.{sight, issued}
use Rattle.law_copies_kept.specs.Below.coherent_memory.Walking.{path}
use Rattle.law_copies_kept.specs.Below.coherent_memory.Weights.{copies}
use Rattle.law_copies_kept.specs.Below.coherent_memory.Words.{HasWords}
use Rattle.law_copies_kept.specs.Below.law_words_paths.paths.HeapStore.{GoesOn, HasPaths}
use Rattle.law_walks_own.specs.Below.law_words_kept.reads.Reading.{LiesUnder}
use Rattle.law_walks_own.proofs.Below.law_words_kept.reads.Homes.{fresh_word}
use Rattle.law_walks_own.proofs.Below.law_words_kept.reads.Lookups.{one_state}
use Rattle.law_walks_own.proofs.Below.law_words_paths.words.NewWord.{is_new}
use Rattle.law_walks_others.proofs.Below.law_words_kept.ends.Fresh.{writes_are_fresh}
use Rattle.law_walks_others.proofs.Below.law_words_kept.ends.Lying.{written_lie_there}
use Rattle.law_copies_kept.proofs.Below.law_results_reads.Known.{Steps, standing, paths, goes}
use Rattle.law_walks_others.proofs.Below.law_results_events.writes.Memory.{Sane}
use Rattle.law_walks_others.proofs.Below.law_results_events.writes.StepRoutes.{awake}
use Rattle.law_walks_others.proofs.Below.law_words_asked.writes.Later.{Later, renewal_unissued, next_vacant}
use Rattle.law_walks_own.specs.passed.Passed.{HasPassed}
use Rattle.law_walks_own.proofs.passed.Then.{NoneThen}
use Rattle.law_walks_own.proofs.passed.Stands.{NoCopy}

-- what is known of copies afterwards
pub record Bare (k c : Cluster) : Type 0 where
  pub passed : NoneThen k c
  pub new : (w : ℕ) → issued (sight k) w ≡ false → tot (copies w) (things_of c) ≡ 0

-- the word of a box that a write has passed
pub passed_good : (k c : Cluster) → Bare k c → (x : Standing) → GoesOn k x → (w : Lval) → written_place (path (sight k) x) ≡ Some w → (j : ℕ) (l : Location) (b : BoxPtr) → locate (sight k).ground x.thread.number w.slot j ≡ Some l → value_in (sight k).ground l ≡ Some (value.Own (owned.Box b)) → j < x.thread.passed → NoCopy c b.word
passed_good k c bare x on w writes j l b located stands less =
    let it : HasPassed k x b = record { goes = on; place = w; writes = writes; hop = j; passed = less; stands = ap (value_behind (sight k).ground) located ∙ stands } in
    bare.passed (record { thread = x; pointer = b; passed = it })

module _ (k c : Cluster) (bare : Bare k c) (n t : ℕ) (s : Server) (y : ThreadState) (i : Instr) (z : Steps k n t s y i) where
  abbrev x : Standing
  x = standing k n t s y i z

  abbrev on : GoesOn k x
  on = goes k n t s y i z

  abbrev p : HasPaths k
  p = paths k n t s y i z

  -- a word of a new address
  pub renewed_good : (q : PartitionState) (w : ℕ) → Later s.rest.partition q → Sane q → length q.cells < 2 ^ 40 → colour_of w + 1 ≡ q.limit → NoCopy c (new_word (freed q w))
  renewed_good q w later sane room last =
      let as_long : length (freed q w).cells ≡ length q.cells = length-set q.cells (address_of w) None in
      let vacant = next_vacant q w sane last in
      let within : (next_place (freed q w)).0 < 2 ^ 40 = (let l = vacant.within in omega (arith, l, room, as_long)) in
      bare.new (new_word (freed q w)) (renewal_unissued k z.coherent.sound n s z.here q w later last sane.small within)

  module _ (w : Lval) (writes : written_place (path (sight k) x) ≡ Some w) (j : ℕ) (l : Location) (b : BoxPtr) (located : locate (sight k).ground y.number w.slot j ≡ Some l) (stands : value_in (sight k).ground l ≡ Some (value.Own (owned.Box b))) where
    -- the next colour of a box on the way
    pub next_good : j < w.depth → NoCopy c (next_word b.word)
    next_good lt =
        let words : HasWords (sight k) = z.coherent.sound.words.have_words in
        let its : b.word ≡ words.word b.object = fresh_word k words l (value.Own (owned.Box b)) b stands refl (writes_are_fresh k p x w j l on writes lt located) in
        let u : LiesUnder k b = written_lie_there k z.coherent x w j l (value.Own (owned.Box b)) b on (awake k n t s y i z) writes lt located stands refl in
        bare.new (next_word b.word) (ap (λ v. issued (sight k) (next_word v)) its ∙ is_new k words (one_state k z.coherent.sound) u.server u.address b.object u.there)

    -- the word of one that was passed before
    pub before_good : j < y.passed → NoCopy c b.word
    before_good less = passed_good k c bare x on w writes j l b located stands less
