-- What an act changes, and what the stores and the new mutex of an entry change (this project's rule).
use Rattle.std.specs.Prelude.{ℕ, true, false, List, [], ◌∷◌, ◌++◌, Option, Some, None, if◌then◌else◌}
use Rattle.fr_base.specs.Names.{same_object}
use Rattle.fr_base.specs.declared.name.ObjNo.{ObjNo}
use Rattle.fr_base.specs.declared.name.MutexNo.{MutexNo}
use Rattle.fr_base.specs.declared.label.Plain.{Plain}
use Rattle.fr_base.specs.declared.label.Plain.TheVariants as plain
use Rattle.fr_base.specs.declared.label.Label.{Label}
use Rattle.fr_base.specs.declared.label.Label.TheVariants as label
use Rattle.fr_base.specs.declared.step.Fresh.{Fresh}
use Rattle.fr_base.specs.declared.step.Fresh.TheVariants as fresh
use Rattle.journal.specs.declared.act.Act.{Act}
use Rattle.journal.specs.declared.act.Act.TheVariants as act
use Rattle.journal.specs.View.{EntryView}
use Rattle.coloured_heap.specs.Lists.{less_first, less_all, with_each}
use Rattle.coloured_heap.specs.Heap.{Lies, Flies, Living, Copied, Wish, ForCopy, ForObject, ForContent, ForShare, ForResult, Running, Coloured, is_thread, is_object, value_of, is_under, is_copy, next_served, same_wish, is_mutex}
use Rattle.coloured_heap.specs.Rules.{issued_by}

-- PARTS OF A CHANGE

-- the first value that these labels make the object with
abbrev pub made_value : ObjNo → List Label → Plain
made_value p [] = plain.Nothing
made_value p (label.Make q v ∷ ls) = if same_object q p then v else made_value p ls
made_value p (_ ∷ ls) = made_value p ls

abbrev pub with_object : Coloured → Living → Coloured
with_object s x = record s { living = x ∷ s.living }

abbrev pub change : Coloured → ObjNo → (Living → Living) → Coloured
change s p f = record s { living = with_each (is_object p) f s.living }

abbrev pub with_value : Coloured → ObjNo → Plain → Coloured
with_value s p v = change s p (λ x. record x { value = v })

-- a thing that is asked for, and one that is answered
abbrev pub wishing : Coloured → Wish → Coloured
wishing s a = record s { wishes = a ∷ s.wishes }

abbrev pub answering : Coloured → Wish → Coloured
answering s a = record s { wishes = less_first (same_wish a) s.wishes }

-- under way to a server, with the value that the object has now
abbrev pub serving : Coloured → ObjNo → ℕ → ℕ → Coloured
serving s p w there = record s { served = s.served ++ record { server = there; word = w; object = p; value = value_of s p } ∷ [] }

-- in the cache, in place of what was there under that word
abbrev pub with_copy : Option Copied → List Copied → List Copied
with_copy None cs = cs
with_copy (Some c) cs = c ∷ less_all (is_under c.server c.word) cs

-- the copy that was served first comes to the cache
abbrev pub filling : Coloured → ObjNo → ℕ → ℕ → Coloured
filling s p w here = record s { cached = with_copy (next_served s p w here) s.cached; served = less_first (is_copy p w here) s.served }

abbrev pub with_holder : Coloured → MutexNo → Option ℕ → Coloured
with_holder s m holder = record s { mutexes = with_each (is_mutex m) (λ g. record g { holder = holder }) s.mutexes }

abbrev pub change_thread : Coloured → ℕ → (Running → Running) → Coloured
change_thread s t f = record s { threads = with_each (is_thread t) f s.threads }

-- the number of the entry's thread; who asks is a thread
abbrev pub asker_of : Option ℕ → ℕ
asker_of None = 0
asker_of (Some t) = t

-- ACTS

-- what an act changes beside the words that were issued
abbrev pub changed_by : EntryView → Coloured → Act → Coloured
changed_by e s (act.Make p w) = with_object s (record { object = p; place = Lies e.server; word = w; value = made_value p e.labels; is_condemned = false })
changed_by e s (act.Local p w) = s
changed_by e s (act.Hit p w) = s
changed_by e s (act.Ask p w) = wishing s (ForCopy p w e.server)
changed_by e s (act.Serve p w there) = serving (answering s (ForCopy p w there)) p w there
changed_by e s (act.Fill p w) = filling s p w e.server
changed_by e s (act.Pull p w) = wishing s (ForObject p w e.server)
changed_by e s (act.Give p w there) = change (answering s (ForObject p w there)) p (λ x. record x { place = Flies there })
changed_by e s (act.Take p old new) = change s p (λ x. record x { place = Lies e.server; word = new })
changed_by e s (act.Tint p old new) = change s p (λ x. record x { word = new })
changed_by e s (act.Renew p old new) = change s p (λ x. record x { word = new })
changed_by e s (act.Condemn p w) = change s p (λ x. record x { is_condemned = true })
changed_by e s (act.Free p w) = record s { living = less_all (is_object p) s.living }
changed_by e s (act.Evict w) = record s { cached = less_all (is_under e.server w) s.cached }
changed_by e s (act.AskLock m) = wishing s (ForContent m (asker_of e.thread) e.server)
changed_by e s (act.Grant m t there) = with_holder (answering s (ForContent m t there)) m (Some t)
changed_by e s (act.GiveBack m) = with_holder s m None
changed_by e s (act.AskDup m) = wishing s (ForShare m (asker_of e.thread) e.server)
changed_by e s (act.Dupped m t there) = answering s (ForShare m t there)
changed_by e s (act.LetGo x) = s
changed_by e s (act.Start t there) = record s { threads = record { thread = t; server = there; has_ended = false } ∷ s.threads }
changed_by e s (act.AskJoin t) = wishing s (ForResult t (asker_of e.thread) e.server)
changed_by e s (act.Answer t asker there) = answering s (ForResult t asker there)
changed_by e s (act.Finish t) = change_thread s t (λ r. record r { has_ended = true })
changed_by e s (act.Depart t there) = change_thread s t (λ r. record r { server = there })

abbrev pub with_new : Option ℕ → List ℕ → List ℕ
with_new None ws = ws
with_new (Some w) ws = w ∷ ws

-- the state after an act
abbrev pub after_act : EntryView → Coloured → Act → Coloured
after_act e s a = record (changed_by e s a) { issued = with_new (issued_by a) s.issued }

-- THE END OF AN ENTRY

-- the stores among these labels, in order
abbrev pub stored : List Label → Coloured → Coloured
stored [] s = s
stored (label.Store p v ∷ ls) s = stored ls (with_value s p v)
stored (_ ∷ ls) s = stored ls s

-- a plain step that names a new mutex makes it, with its content in
abbrev pub with_new_mutex : Option Fresh → Coloured → Coloured
with_new_mutex (Some (fresh.Mutex m)) s = record s { mutexes = record { mutex = m; holder = None } ∷ s.mutexes }
with_new_mutex _ s = s
