-- A tint of what stands in a slot leaves each object a word.
use Rattle.std.proofs.Common.{◌≡◌, ◌≢◌, inl, ⊎_elim, ℕ, true, false, Some, refl, sym, ap, subst, ◌∙◌}
use Rattle.law_words_paths.specs.Below.global_addr.Words.{next_word}
use Rattle.law_words_paths.specs.Below.heap_partition.declared.value.BoxPtr.{BoxPtr}
use Rattle.law_words_paths.specs.Below.heap_partition.declared.value.Owned.TheVariants as owned
use Rattle.law_words_paths.specs.Below.mut_borrow.declared.mutable.MutRef.{MutRef}
use Rattle.law_words_paths.specs.Below.thread_state.declared.value.Value.{Value}
use Rattle.law_words_paths.specs.Below.thread_state.declared.value.Value.TheVariants as value
use Rattle.law_words_paths.specs.Below.server_model.Servers.{Cluster}
use Rattle.law_words_paths.specs.Below.server_model.Places.{pointer_of, with_word}
use Rattle.law_words_paths.specs.Below.coherent_memory.Names.{Among}
use Rattle.law_words_paths.specs.Below.coherent_memory.Things.{Location, at_slot, borrows, things_of}
use Rattle.law_words_paths.specs.Below.coherent_memory.Follow.{value_in}
use Rattle.law_words_paths.specs.Below.coherent_memory.Sight.{pointers_in, taken_pointers, sight, issued}
use Rattle.law_words_paths.specs.Below.coherent_memory.Words.{all_pointers, IsStale, LeadsTo}
use Rattle.law_words_paths.proofs.paths.Sole.{some_is}
use Rattle.law_words_paths.proofs.paths.Origins.{among_first}
use Rattle.law_words_paths.specs.words.WordsAfter.{Rewrites}
use Rattle.law_words_paths.specs.words.PutBack.{put_in, LeadsHome, TintKeepsWords}
use Rattle.law_words_paths.proofs.words.GoOn.{pointer_to}
use Rattle.law_words_paths.proofs.words.Standing.{pointer_at, told, slot_among}
use Rattle.law_words_paths.proofs.words.NewWord.{is_new, new_words_go_on}
use Rattle.law_words_paths.proofs.words.Past.{first_issued}
use Rattle.law_words_paths.proofs.words.Tints.{slot_put, slot_stands, tint_rewords}

-- a value that may get another word is its pointer
pointer_is : (w : ℕ) (v new : Value) (p : BoxPtr) (l : Location) → with_word w v ≡ Some new → pointer_of v ≡ Some p → Among (pointer_to l p.word p.object) (pointer_at l v)
pointer_is w (value.Own (owned.Box b)) new p l e f = inl (ap (λ (q : BoxPtr). pointer_to l q.word q.object) (some_is f))
pointer_is w (value.Mut r) new p l e f = inl (ap (λ (q : BoxPtr). pointer_to l q.word q.object) (some_is f))
pointer_is w _ new p l e f = absurd cc

pub tint_keeps_words : TintKeepsWords
tint_keeps_words k n ts e h h2 i v p here at points put c d sole fresh issued_all firsts states_differ before r a there =
    new_words_go_on kh (put_in k n ts e h2) l p.object (next_word p.word) rewrites issued_all new before
  where
    kh : Cluster
    kh = put_in k n ts e h

    l : Location
    l = at_slot h.thread.number i

    stands : value_in (sight kh).ground l ≡ Some v
    stands = slot_stands k n ts e h i v here c at

    pointer : Among (pointer_to l p.word p.object) (all_pointers (sight kh))
    pointer =
        let q = slot_put h h2 i v p at put in
        among_first (pointer_to l p.word p.object) (pointers_in (things_of kh)) (taken_pointers (sight kh).code (sight kh).ground (sight kh).ground.threads)
        (told kh l v (pointer_to l p.word p.object) stands (pointer_is (next_word p.word) v q.new p l q.worded points))

    its_word : p.word ≡ before.word p.object
    its_word = ⊎_elim (λ (s : IsStale (sight kh) (Some l)). absurd (fresh s)) (λ (q : p.word ≡ before.word p.object). q) (before.same (pointer_to l p.word p.object) pointer)

    home : LeadsHome kh p
    home = record { server = r; address = a; lying = there; leads = λ m y z q f. subst (λ j. LeadsTo m y j) (ap before.word f ∙ sym its_word) (before.home m y z q) }

    new : issued (sight kh) (next_word p.word) ≡ false
    new = ap (λ v. issued (sight kh) (next_word v)) its_word ∙ is_new kh before states_differ r a p.object there

    new_word : (q : MutRef) → v ≡ value.Mut q → next_word p.word ≢ q.first
    new_word q f s =
        let among : Among (borrows l q) (things_of kh) = slot_among kh h.thread.number i (value.Mut q) (stands ∙ ap Some f) (borrows l q) (λ m. inl refl) in
        let was : issued (sight kh) q.first ≡ true = first_issued kh issued_all l q among in
        let z : true ≡ false = sym was ∙ ap (issued (sight kh)) (sym s) ∙ new in
        absurd cc

    rewrites : Rewrites kh (put_in k n ts e h2) l p.object (next_word p.word)
    rewrites = record { before = c; only = sole; fresh = fresh; firsts = firsts; places = d; reworded = tint_rewords k n ts e h h2 i v p here at points put c d home new_word }
