-- What threads have taken, by their turns, and where one of them takes an object.
use Rattle.std.proofs.Common.{◌≡◌, ◌⊎◌, inl, inr, ⊎_elim, ℕ, false, List, [], ◌∷◌, ◌++◌, map, Option, Some, None, refl, sym, ap, subst, ◌∙◌}
use Rattle.std.specs.Prelude.{slice_get}
use Rattle.law_words_asked.specs.Below.fr_base.declared.instruction.Instr.{Instr}
use Rattle.law_words_asked.specs.Below.fr_base.declared.instruction.Instr.TheVariants as instr
use Rattle.law_words_asked.specs.Below.thread_state.View.{ThreadState}
use Rattle.law_words_asked.specs.Below.thread_state.declared.phase.Phase.{Phase}
use Rattle.law_words_asked.specs.Below.thread_state.declared.phase.Phase.TheVariants as phase
use Rattle.law_words_asked.specs.Below.coherent_memory.Names.{Among}
use Rattle.law_words_asked.specs.Below.coherent_memory.Things.{Thing, thread_things}
use Rattle.law_words_asked.specs.Below.coherent_memory.Follow.{Standing, threads_in}
use Rattle.law_words_asked.proofs.Below.law_words_paths.paths.Contained.{rest_none}
use Rattle.law_words_asked.proofs.Below.law_words_paths.paths.Origins.{threads_joined}
use Rattle.law_words_asked.specs.Below.law_words_paths.words.Reworded.{taken_word, Turn, turn_of}
use Rattle.law_words_asked.specs.Below.law_words_paths.words.Unmoved.{Taking, taking_by, taking_of, with_taking, takings}
use Rattle.law_words_asked.proofs.Below.law_words_paths.words.Put.{Split}

-- BY THEIR TURNS

abbrev taking_at : ℕ → Option ℕ → Option Instr → Option Taking
taking_at t (Some w) (Some (instr.BorrowMut p)) = Some (record { thread = t; place = p; word = w })
taking_at t _ _ = None

by_turn : (t : ℕ) (p : Phase) (i : Option Instr) → taking_by t p i ≡ taking_at t (taken_word p) i
by_turn t (phase.Taken w) (Some (instr.BorrowMut p)) = refl
by_turn t (phase.Taken w) (Some _) = refl
by_turn t (phase.Taken w) None = refl
by_turn t _ i = refl

abbrev turn_takings : List Instr → List Turn → List Taking
turn_takings code [] = []
turn_takings code (t ∷ ts) = with_taking (taking_at t.number t.taken (slice_get code t.pc)) (turn_takings code ts)

takings_are : (code : List Instr) (xs : List Standing) → takings code xs ≡ turn_takings code (map turn_of xs)
takings_are code [] = refl
takings_are code (x ∷ xs) =
    ap (λ o. with_taking o (takings code xs)) (by_turn x.thread.number x.thread.phase (slice_get code x.thread.pc)) ∙ ap (with_taking (taking_at x.thread.number (taken_word x.thread.phase) (slice_get code x.thread.pc))) (takings_are code xs)

pub same_takings : (code : List Instr) (xs ys : List Standing) → map turn_of ys ≡ map turn_of xs → takings code ys ≡ takings code xs
same_takings code xs ys e = takings_are code ys ∙ ap (turn_takings code) e ∙ sym (takings_are code xs)

-- WHERE ONE OF THEM TAKES

module _ (code : List Instr) (x y : Standing) (t : Taking) (none : taking_of code x ≡ None) (its : taking_of code y ≡ Some t) where
  under : (o : Option Taking) (u : Taking) (ts : List Taking) → Among u ts → Among u (with_taking o ts)
  under None u ts h = h
  under (Some a) u ts h = inr h

  over : (o : Option Taking) (u : Taking) (ts us : List Taking) → (Among u ts → Among u us) → Among u (with_taking o ts) → Among u (with_taking o us)
  over None u ts us go h = go h
  over (Some a) u ts us go (inl e) = inl e
  over (Some a) u ts us go (inr h) = inr (go h)

  pub takes_on : (l r : List Standing) (u : Taking) → Among u (takings code (l ++ (x ∷ r))) → Among u (takings code (l ++ (y ∷ r)))
  takes_on [] r u h = under (taking_of code y) u (takings code r) (subst (λ o. Among u (with_taking o (takings code r))) none h)
  takes_on (z ∷ l) r u h = over (taking_of code z) u (takings code (l ++ (x ∷ r))) (takings code (l ++ (y ∷ r))) (λ g. takes_on l r u g) h

  pub takes_there : (l r : List Standing) → Among t (takings code (l ++ (y ∷ r)))
  takes_there [] r = subst (λ o. Among t (with_taking o (takings code r))) (sym its) (inl refl)
  takes_there (z ∷ l) r = under (taking_of code z) t (takings code (l ++ (y ∷ r))) (takes_there l r)

  pub takes_back : (l r : List Standing) (u : Taking) → Among u (takings code (l ++ (y ∷ r))) → (t ≡ u) ⊎ Among u (takings code (l ++ (x ∷ r)))
  takes_back [] r u h = by (subst (λ o. Among u (with_taking o (takings code r))) its h)
    where
      by : Among u (t ∷ takings code r) → (t ≡ u) ⊎ Among u (with_taking (taking_of code x) (takings code r))
      by (inl e) = inl e
      by (inr g) = inr (under (taking_of code x) u (takings code r) g)
  takes_back (z ∷ l) r u h = by (taking_of code z) h (λ g. takes_back l r u g)
    where
      by : (o : Option Taking) → Among u (with_taking o (takings code (l ++ (y ∷ r)))) → (Among u (takings code (l ++ (y ∷ r))) → (t ≡ u) ⊎ Among u (takings code (l ++ (x ∷ r)))) → (t ≡ u) ⊎ Among u (with_taking o (takings code (l ++ (x ∷ r))))
      by None g go = go g
      by (Some a) (inl e) go = inr (inl e)
      by (Some a) (inr g) go = ⊎_elim (λ (e : t ≡ u). inl e) (λ (f : Among u (takings code (l ++ (x ∷ r)))). inr (inr f)) (go g)

-- A THREAD BETWEEN OTHER THINGS

append_assoc : {A : Type 0} (a b c : List A) → a ++ b ++ c ≡ a ++ (b ++ c)
append_assoc [] b c = refl
append_assoc (x ∷ a) b c = ap (λ l. x ∷ l) (append_assoc a b c)

one_thread : (l m r : List Thing) (x : Standing) → threads_in m ≡ x ∷ [] → threads_in (l ++ m ++ r) ≡ threads_in l ++ (x ∷ threads_in r)
one_thread l m r x e = threads_joined (l ++ m) r ∙ ap (λ q. q ++ threads_in r) (threads_joined l m) ∙ ap (λ q. threads_in l ++ q ++ threads_in r) e ∙ append_assoc (threads_in l) (x ∷ []) (threads_in r)

its_thread : (n : ℕ) (t : ThreadState) → threads_in (thread_things n false t) ≡ record { server = n; packed = false; thread = t } ∷ []
its_thread n t = ap (λ q. record { server = n; packed = false; thread = t } ∷ q) (rest_none n t)

module _ {a b : List Thing} (n : ℕ) (t u : ThreadState) (s : Split a b (thread_things n false t) (thread_things n false u)) where
  pub threads_before : threads_in a ≡ threads_in s.left ++ (record { server = n; packed = false; thread = t } ∷ threads_in s.right)
  threads_before = ap threads_in s.before ∙ one_thread s.left (thread_things n false t) s.right (record { server = n; packed = false; thread = t }) (its_thread n t)

  pub threads_after : threads_in b ≡ threads_in s.left ++ (record { server = n; packed = false; thread = u } ∷ threads_in s.right)
  threads_after = ap threads_in s.after ∙ one_thread s.left (thread_things n false u) s.right (record { server = n; packed = false; thread = u }) (its_thread n u)
