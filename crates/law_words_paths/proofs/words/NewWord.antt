-- The next colour of an object's word wasn't issued.
use Rattle.std.proofs.Common.{◌≡◌, inl, inr, ℕ, ◌+◌, ◌≤◌, ◌==◌, ◌&&◌, ◌||◌, Bool, true, false, List, [], ◌∷◌, Some, refl, sym, ap, subst, ◌∙◌, arith}
use Rattle.std.specs.Prelude.{nat_lt}
use Rattle.std.proofs.lemmas.Bool.Decides.{nat_tests}
use Rattle.law_words_paths.specs.Below.fr_base.declared.name.ObjNo.{ObjNo}
use Rattle.law_words_paths.specs.Below.global_addr.Words.{colour_of, server_of, address_of, next_word}
use Rattle.law_words_paths.specs.Below.heap_partition.declared.value.Cell.{Cell}
use Rattle.law_words_paths.specs.Below.server_model.Servers.{Cluster}
use Rattle.law_words_paths.specs.Below.coherent_memory.Names.{Among, one}
use Rattle.law_words_paths.specs.Below.coherent_memory.Things.{Thing, lies, vacant, retired, things_of}
use Rattle.law_words_paths.specs.Below.coherent_memory.Balances.{AtMostOne}
use Rattle.law_words_paths.specs.Below.coherent_memory.Weights.{states}
use Rattle.law_words_paths.specs.Below.coherent_memory.Sight.{Pointer, word_of_object, colour_up_to, is_spot, is_issued_at, is_issued, sight, issued}
use Rattle.law_words_paths.specs.Below.coherent_memory.Words.{HasWords, LeadsTo, Fresh}
use Rattle.law_words_paths.proofs.Below.coherent_memory.Names.{and_left, and_right, same_number}
use Rattle.law_words_paths.proofs.Below.coherent_memory.Words.{words_law}
use Rattle.law_words_paths.proofs.paths.InState.{only_one}
use Rattle.law_words_paths.specs.words.Reworded.{LiesThere}
use Rattle.law_words_paths.specs.words.WordsAfter.{NewWordsGoOn}
use Rattle.law_words_paths.proofs.words.Words.{words_go_on}
use Rattle.law_words_paths.proofs.words.Beside.{holders_go_on, dirty_goes_on}
use Rattle.law_words_paths.proofs.words.Past.{are_no_firsts, past_goes_on}
use Rattle.law_words_paths.proofs.words.Tints.{next_leads}

none_issued : (colours w : ℕ) (ps : List Pointer) (b : List Thing) → ((x : Thing) → Among x b → is_issued_at colours ps w x ≡ false) → is_issued colours ps b w ≡ false
none_issued colours w ps [] f = refl
none_issued colours w ps (x ∷ b) f = ap (λ q. q || is_issued colours ps b w) (f x (inl refl)) ∙ none_issued colours w ps b (λ y h. f y (inr h))

same_spot : (r a s d : ℕ) → s ≡ r → d ≡ a → 1 ≤ one (s == r && d == a)
same_spot r a s d e f =
    let x : (s == r) ≡ true = grind (arith, nat_tests, e) in
    let y : (d == a) ≡ true = grind (arith, nat_tests, f) in
    rw x (rw y (omega arith))

-- the next colour is later
later_colour : (w : ℕ) → colour_up_to (Some w) (next_word w) ≡ false
later_colour w =
    let l : colour_of (next_word w) ≡ colour_of w + 1 = omega arith in
    grind (arith, nat_tests, l)

lies_same : (r a s d : ℕ) (c e : Cell) → lies r a c ≡ lies s d e → c ≡ e
lies_same r a s d c e f = cc

module _ (k : Cluster) (b : HasWords (sight k)) (states_differ : AtMostOne states (things_of k)) where
  module _ (r a : ℕ) (o : ObjNo) (there : LiesThere k r a o) where
    abbrev w : ℕ
    w = next_word (b.word o)

    leads : LeadsTo r a w
    leads = next_leads r a (b.word o) (subst (λ q. LeadsTo r a (b.word q)) there.object (b.home r a there.cell there.among))

    told : word_of_object (sight k).pointers o ≡ Some (b.word o)
    told = words_law.first_tells k b o (subst (λ q. Fresh (sight k) q) there.object (b.live r a there.cell there.among))

    -- what has a state at that address is the object's cell
    its_cell : (x : Thing) → Among x (things_of k) → 1 ≤ states (r, a) x → lies r a there.cell ≡ x
    its_cell x h l = only_one (states (r, a)) (lies r a there.cell) x (things_of k) (states_differ (r, a)) there.among h (same_spot r a r a refl refl) l

    spot_is : (s d : ℕ) → is_spot s d w ≡ true → (s ≡ r) × (d ≡ a)
    spot_is s d e =
        (sym (same_number (server_of w) s (and_left (server_of w == s) (address_of w == d) e)) ∙ leads.server, sym (same_number (address_of w) d (and_right (server_of w == s) (address_of w == d) e)) ∙ leads.address)

    not_issued : (x : Thing) → Among x (things_of k) → is_issued_at (sight k).options.colours (sight k).pointers w x ≡ false
    not_issued (lies s d c) h = by (is_spot s d w) refl
      where
        by : (q : Bool) → is_spot s d w ≡ q → (q && colour_up_to (word_of_object (sight k).pointers c.object) w) ≡ false
        by false e = refl
        by true e =
            let p = spot_is s d e in
            let same : there.cell ≡ c = lies_same r a s d there.cell c (its_cell (lies s d c) h (same_spot r a s d p.0 p.1)) in
            let object : c.object ≡ o = sym (ap (λ (y : Cell). y.object) same) ∙ there.object in
            ap (λ q. colour_up_to (word_of_object (sight k).pointers q) w) object ∙ ap (λ q. colour_up_to q w) told ∙ later_colour (b.word o)
    not_issued (vacant s d n) h = by (is_spot s d w) refl
      where
        by : (q : Bool) → is_spot s d w ≡ q → (q && nat_lt (colour_of w) n) ≡ false
        by false e = refl
        by true e = let p = spot_is s d e in let same = its_cell (vacant s d n) h (same_spot r a s d p.0 p.1) in absurd cc
    not_issued (retired s d) h = by (is_spot s d w) refl
      where
        by : (q : Bool) → is_spot s d w ≡ q → (q && nat_lt (colour_of w) (sight k).options.colours) ≡ false
        by false e = refl
        by true e = let p = spot_is s d e in let same = its_cell (retired s d) h (same_spot r a s d p.0 p.1) in absurd cc
    not_issued _ h = refl

    pub is_new : issued (sight k) w ≡ false
    is_new = none_issued (sight k).options.colours w (sight k).pointers (things_of k) not_issued

pub new_words_go_on : NewWordsGoOn
new_words_go_on k z h o w r all new before = record {
  words = words_go_on k z h o w r before;
  holders = holders_go_on k z h o w r;
  dirty = dirty_goes_on k z h o w r;
  past = past_goes_on k z h o w r (are_no_firsts.unissued k o w all new);
}
