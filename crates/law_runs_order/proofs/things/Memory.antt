-- The sentences of words and copies, over things in another order.
use Rattle.std.proofs.Common.{◌≡◌, ℕ, ◌+◌, ◌==◌, ◌&&◌, not, Bool, List, Option, refl, ap, ap₂, ◌∙◌}
use Rattle.std.proofs.Math.Path.{fun_ext}
use Rattle.law_runs_rounds.specs.Below.law_runs_coherent.Below.fr_base.declared.name.ObjNo.{ObjNo}
use Rattle.law_runs_rounds.specs.Below.law_runs_coherent.Below.law_heap_still.Below.global_addr.Words.{colour_of}
use Rattle.law_runs_rounds.specs.Below.law_runs_coherent.Below.server_msgs.declared.message.Message.{Message}
use Rattle.law_runs_rounds.specs.Below.law_runs_coherent.Below.server_msgs.declared.message.Message.TheVariants.{Fetch, Fetched}
use Rattle.law_runs_rounds.specs.Below.law_runs_coherent.Below.server_model.Servers.{Server, Cluster}
use Rattle.law_runs_rounds.specs.Below.law_runs_coherent.Below.coherent_memory.Names.{tot, one, other, if_so, same_object}
use Rattle.law_runs_rounds.specs.Below.law_runs_coherent.Below.coherent_memory.Things.{Thing, lies, flies, copied, sent, servers_things, things_of}
use Rattle.law_runs_rounds.specs.Below.law_runs_coherent.Below.coherent_memory.Follow.{Standing}
use Rattle.law_runs_rounds.specs.Below.law_runs_coherent.Below.coherent_memory.Stale.{Reference, references, is_held_at}
use Rattle.law_runs_rounds.specs.Below.law_runs_coherent.Below.coherent_memory.Sight.{Sight, Pointer, is_word, word, issued, sight}
use Rattle.law_runs_rounds.specs.Below.law_runs_coherent.Below.coherent_memory.Placing.{words, issued_wrong, next_colours, colours_wrong, other_word, same_word_wrong, is_spot, other_spot, homeward_wrong, is_first, other_first, first_wrong, is_word_of, same_words, shared_words, different_words_wrong, held_by, fresh_beside, standing_pointers, not_alone, dirty_wrong, has_first, first_again, first_again_wrong, other_cell, fetched_copy, other_copy, copies_wrong, unclean_request, unclean, served_wrong, clean_cell}
use Rattle.std.specs.Prelude.{is_some, nat_lt}
use Rattle.law_runs_order.specs.things.SameThings.{Reordered}
use Rattle.law_runs_order.proofs.things.Places.{behind_same}
use Rattle.law_runs_order.proofs.things.Sights.{tot_same, Apart, thread_same, cell_same, threads_there, references_there, among_same, stale_same, standing_there, pointers_there, word_same, issued_same, clean_same}

module _ (k : Cluster) (servers : List Server) (r : Reordered (things_of k) (servers_things servers)) (once : Apart (servers_things servers)) where
  abbrev s : Sight
  s = sight k

  abbrev t : Sight
  t = sight (record k { servers = servers })

  pub over_things : (f g : Thing → ℕ) → ((x : Thing) → f x ≡ g x) → tot f s.things ≡ tot g t.things
  over_things f g e = tot_same f g e s.things ∙ r.sums g

  pub over_threads : (f g : Standing → ℕ) → ((x : Standing) → f x ≡ g x) → tot f s.ground.threads ≡ tot g t.ground.threads
  over_threads f g e = tot_same f g e s.ground.threads ∙ (threads_there k servers r once).sums g

  pub colours_same : colours_wrong s ≡ colours_wrong t
  colours_same = ap₂ (λ m n. m + n) (r.sums (words (λ w. other (nat_lt (colour_of w) k.options.colours)))) (r.sums (next_colours k.options.colours))

  first_at : (q : Reference) → other_first s.ground q ≡ other_first t.ground q
  first_at q = ap (λ v. other (is_first q.reference v)) (behind_same s.ground t.ground (thread_same k servers r once) (cell_same k servers r once) q.holder)

  pub first_same : first_wrong s ≡ first_wrong t
  first_same = tot_same (other_first s.ground) (other_first t.ground) first_at (references s.ground s.things) ∙ (references_there k servers r once).sums (other_first t.ground)

  beside_same : (q : Reference) (p : Pointer) → fresh_beside s q p ≡ fresh_beside t q p
  beside_same q p = ap (λ o. if_so (same_object p.object q.reference.object) (one (not o && not (is_held_at q.at p.at)))) (stale_same k servers r once p.at)

  alone_same : (q : Reference) → not_alone s (references s.ground s.things) q ≡ not_alone t (references t.ground t.things) q
  alone_same q =
      ap₂ if_so (ap (λ o. q.reference.dirty && not o) (among_same k servers r once q.at))
      (ap₂ (λ m n. m + n) ((references_there k servers r once).sums (held_by q.at)) (tot_same (fresh_beside s q) (fresh_beside t q) (beside_same q) (standing_pointers s) ∙ (standing_there k servers r once).sums (fresh_beside t q)))

  pub dirty_same : dirty_wrong s ≡ dirty_wrong t
  dirty_same =
      tot_same (not_alone s (references s.ground s.things)) (not_alone t (references t.ground t.things)) alone_same (references s.ground s.things)
      ∙ (references_there k servers r once).sums (not_alone t (references t.ground t.things))

  again_same : (q : Reference) → first_again s.pointers q ≡ first_again t.pointers q
  again_same q = ap (if_so (not (q.reference.word == q.reference.first))) ((pointers_there k servers r once).sums (has_first q.reference))

  pub again_wrong_same : first_again_wrong s ≡ first_again_wrong t
  again_wrong_same =
      tot_same (first_again s.pointers) (first_again t.pointers) again_same (references s.ground s.things) ∙ (references_there k servers r once).sums (first_again t.pointers)

  -- where each object has its word
  module _ (worded : same_word_wrong t ≡ 0) where
    word_is : (o : ObjNo) → word s o ≡ word t o
    word_is = word_same k servers r once worded

    pub issued_wrong_same : issued_wrong s ≡ issued_wrong t
    issued_wrong_same = ap (λ (i : ℕ → Bool). tot (words (λ w. other (i w))) s.things) (fun_ext (issued_same k servers r once worded)) ∙ r.sums (words (λ w. other (issued t w)))

    other_word_same : (p : Pointer) → other_word s p ≡ other_word t p
    other_word_same p = ap (λ o. other (is_word o p.word)) (word_is p.object)

    pub same_word_same : same_word_wrong s ≡ same_word_wrong t
    same_word_same = tot_same (other_word s) (other_word t) other_word_same s.pointers ∙ (pointers_there k servers r once).sums (other_word t)

    spot_same : (x : Thing) → other_spot s x ≡ other_spot t x
    spot_same (lies n i c) = ap (λ o. other (is_spot n i o)) (word_is c.object)
    spot_same _ = refl

    pub homeward_same : homeward_wrong s ≡ homeward_wrong t
    homeward_same = over_things (other_spot s) (other_spot t) spot_same

    words_of : (w : Option ℕ) (o : ObjNo) (x : Thing) → same_words s w o x ≡ same_words t w o x
    words_of w o (lies n i c) = ap (λ q. one (not (same_object c.object o) && is_word_of q w)) (word_is c.object)
    words_of w o (flies v c) = ap (λ q. one (not (same_object c.object o) && is_word_of q w)) (word_is c.object)
    words_of w o _ = refl

    sharing : (o : ObjNo) → tot (same_words s (word s o) o) s.things ≡ tot (same_words t (word t o) o) t.things
    sharing o = ap (λ w. tot (same_words s w o) s.things) (word_is o) ∙ over_things (same_words s (word t o) o) (same_words t (word t o) o) (words_of (word t o) o)

    shared_same : (x : Thing) → shared_words s x ≡ shared_words t x
    shared_same (lies n i c) = sharing c.object
    shared_same (flies w c) = sharing c.object
    shared_same _ = refl

    pub different_same : different_words_wrong s ≡ different_words_wrong t
    different_same = over_things (shared_words s) (shared_words t) shared_same

    -- and no two objects have one word
    module _ (different : different_words_wrong t ≡ 0) where
      clean_is : (w : ℕ) → clean_cell s w ≡ clean_cell t w
      clean_is = clean_same k servers r once worded different

      fetched_same : (m : Message) → fetched_copy s m ≡ fetched_copy t m
      fetched_same (Fetched w c u) = ap (other_cell c) (clean_is w)
      fetched_same _ = refl

      copy_same : (x : Thing) → other_copy s x ≡ other_copy t x
      copy_same (copied n c) = ap (other_cell c.cell) (clean_is c.word)
      copy_same (sent n m) = fetched_same m
      copy_same _ = refl

      pub copies_same : copies_wrong s ≡ copies_wrong t
      copies_same = over_things (other_copy s) (other_copy t) copy_same

      unclean_at : (m : Message) → unclean_request s m ≡ unclean_request t m
      unclean_at (Fetch w o n u) = ap (λ c. other (is_some c)) (clean_is w)
      unclean_at (Fetched w c u) = ap (λ c. other (is_some c)) (clean_is w)
      unclean_at _ = refl

      unclean_same : (x : Thing) → unclean s x ≡ unclean t x
      unclean_same (sent n m) = unclean_at m
      unclean_same _ = refl

      pub served_same : served_wrong s ≡ served_wrong t
      served_same = over_things (unclean s) (unclean t) unclean_same
