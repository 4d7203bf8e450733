-- Servers that are the same but for the order in which messages wait have the same things in another order.
use Rattle.std.proofs.Common.{◌≡◌, ◌⊎◌, inl, inr, ℕ, zero, suc, ◌+◌, List, [], ◌∷◌, ◌++◌, length, Some, refl, sym, ap, subst, ◌∙◌, arith}
use Rattle.std.specs.Prelude.{slice_get, remove}
use Rattle.law_runs_rounds.specs.Below.law_runs_coherent.Below.server_msgs.declared.message.Message.{Message}
use Rattle.law_runs_rounds.specs.Below.law_runs_coherent.Below.server_model.Servers.{Server}
use Rattle.law_runs_rounds.specs.Below.law_runs_coherent.Below.coherent_memory.Names.{Among, tot}
use Rattle.law_runs_rounds.specs.Below.law_runs_coherent.Below.coherent_memory.Things.{counts, things_at, message_things, waiting_things, leaving_things, partition_things, copy_things, mutex_things, task_things, standing_things, server_things, servers_things}
use Rattle.law_runs_rounds.specs.rounds.Order.{SameItems, with_inbox, AreSameServers}
use Rattle.law_runs_order.specs.things.SameThings.{Reordered}
use Rattle.law_runs_order.proofs.things.Reordered.{same_order, reordered_append, gathered, reordered_gathered}

-- AN ITEM TAKEN OUT

module _ {X : Type 0} where
  tot-taken : (f : X → ℕ) (ys : List X) (i : ℕ) (x : X) → slice_get ys i ≡ Some x → tot f ys ≡ f x + tot f (remove ys i)
  tot-taken f [] i x e = absurd (cc e)
  tot-taken f (y ∷ ys) zero x e = let same : y ≡ x = cc in ap (λ z. f z + tot f ys) same
  tot-taken f (y ∷ ys) (suc i) x e = omega (arith, tot-taken f ys i x e)

  taken_among : (ys : List X) (i : ℕ) (x : X) → slice_get ys i ≡ Some x → Among x ys
  taken_among [] i x e = absurd (cc e)
  taken_among (y ∷ ys) zero x e = let same : y ≡ x = cc in inl same
  taken_among (y ∷ ys) (suc i) x e = inr (taken_among ys i x e)

  left_among : (ys : List X) (i : ℕ) (x : X) → Among x (remove ys i) → Among x ys
  left_among [] zero x h = h
  left_among [] (suc i) x h = h
  left_among (y ∷ ys) zero x h = inr h
  left_among (y ∷ ys) (suc i) x (inl e) = inl e
  left_among (y ∷ ys) (suc i) x (inr h) = inr (left_among ys i x h)

  later : (y z x : X) (ys : List X) → (z ≡ x) ⊎ Among x ys → (z ≡ x) ⊎ Among x (y ∷ ys)
  later y z x ys (inl e) = inl e
  later y z x ys (inr h) = inr (inr h)

  taken_or_left : (ys : List X) (i : ℕ) (z x : X) → slice_get ys i ≡ Some z → Among x ys → (z ≡ x) ⊎ Among x (remove ys i)
  taken_or_left [] i z x e h = absurd h
  taken_or_left (y ∷ ys) zero z x e (inl q) = let same : y ≡ z = cc in inl (sym same ∙ q)
  taken_or_left (y ∷ ys) zero z x e (inr h) = inr h
  taken_or_left (y ∷ ys) (suc i) z x e (inl q) = inr (inl q)
  taken_or_left (y ∷ ys) (suc i) z x e (inr h) = later y z x (remove ys i) (taken_or_left ys i z x e h)

  onward : (z x : X) (xs ys : List X) → (Among x ys → Among x xs) → (z ≡ x) ⊎ Among x ys → Among x (z ∷ xs)
  onward z x xs ys f (inl e) = inl e
  onward z x xs ys f (inr h) = inr (f h)

  pub items_reordered : (xs ys : List X) → SameItems xs ys → Reordered xs ys
  items_reordered [] ys s = subst (Reordered []) (sym s) (same_order [])
  items_reordered (x ∷ xs) ys s =
      let rest = items_reordered xs (remove ys s.0) s.2 in record {
        sums = λ f. ap (λ n. f x + n) (rest.sums f) ∙ sym (tot-taken f ys s.0 x s.1);
        to = λ z h. into z rest h;
        from = λ z h. onward x z xs (remove ys s.0) (rest.from z) (taken_or_left ys s.0 x z s.1 h);
      }
    where
      into : (z : X) → Reordered xs (remove ys s.0) → Among z (x ∷ xs) → Among z ys
      into z rest (inl e) = subst (λ u. Among u ys) e (taken_among ys s.0 x s.1)
      into z rest (inr h) = left_among ys s.0 z (rest.to z h)

-- SERVERS

waiting_gathered : (n i : ℕ) (ms : List Message) → things_at (waiting_things n) i ms ≡ gathered (message_things n) ms
waiting_gathered n i [] = refl
waiting_gathered n i (m ∷ ms) = ap (λ l. message_things n m ++ l) (waiting_gathered n (i + 1) ms)

messages_reordered : (n : ℕ) (ms ns : List Message) → SameItems ms ns → Reordered (things_at (waiting_things n) 0 ms) (things_at (waiting_things n) 0 ns)
messages_reordered n ms ns s =
    subst (λ l. Reordered l (things_at (waiting_things n) 0 ns)) (sym (waiting_gathered n 0 ms)) (subst (Reordered (gathered (message_things n) ms)) (sym (waiting_gathered n 0 ns)) (reordered_gathered (message_things n) (items_reordered ms ns s)))

inbox_reordered : (s : Server) (ms : List Message) → SameItems s.rest.inbox ms → Reordered (server_things s) (server_things (with_inbox ms s))
inbox_reordered s ms w =
    let n = s.rest.number in
    let front = partition_things n s.rest.partition ++ things_at (copy_things n) 0 s.rest.cache ++ things_at (mutex_things n) 0 s.rest.mutexes.there ++ things_at (task_things n) 0 s.rest.tasks ++ things_at (standing_things n) 0 s.threads in
    let first = counts n (length s.rest.partition.cells) s.rest.partition.retired s.rest.started s.rest.mutexes.made s.events ∷ [] in
    reordered_append (same_order first) (reordered_append (reordered_append (same_order front) (messages_reordered n s.rest.inbox ms w)) (same_order (things_at leaving_things 0 s.rest.outbox)))

pub servers_reordered : (ss zs : List Server) → AreSameServers ss zs → Reordered (servers_things ss) (servers_things zs)
servers_reordered [] [] a = same_order []
servers_reordered (s ∷ ss) (z ∷ zs) a =
    reordered_append (subst (λ (y : Server). Reordered (server_things s) (server_things y)) (sym a.0.same) (inbox_reordered s z.rest.inbox a.0.waiting)) (servers_reordered ss zs a.1)
servers_reordered [] (z ∷ zs) a = absurd a
servers_reordered (s ∷ ss) [] a = absurd a
