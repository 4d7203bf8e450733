-- The rules of the acts (this project's). 'Here' is the server of the act's entry. Each rule is asked of the state that the acts
-- before it in its entry leave; the values are those before the entry's stores.
use Rattle.std.specs.Prelude.{ℕ, ◌+◌, ◌%◌, Bool, true, not, ◌&&◌, ◌==◌, nat_lt, Option, Some, None, is_some, is_none}
use Rattle.fr_base.specs.Names.{home_of, count_of}
use Rattle.fr_base.specs.declared.name.ObjNo.{ObjNo}
use Rattle.fr_base.specs.declared.name.MutexNo.{MutexNo}
use Rattle.fr_base.specs.declared.release.Released.{Released}
use Rattle.fr_base.specs.declared.release.Released.TheVariants as released
use Rattle.fr_base.specs.declared.settings.Options.{Options}
use Rattle.global_addr.specs.Words.{colour_of, server_of, next_word}
use Rattle.journal.specs.declared.act.Act.{Act}
use Rattle.journal.specs.declared.act.Act.TheVariants as act
use Rattle.journal.specs.View.{EntryView}
use Rattle.coloured_heap.specs.Lists.{holds}
use Rattle.coloured_heap.specs.Heap.{is_issued, Guarded, Coloured, ForCopy, ForObject, ForContent, ForShare, ForResult, thread_at, object_at, is_lying, lies_at, flies_to, is_cached, next_served, is_wished, mutex_at}

-- NEW WORDS

-- the word that an act issues
abbrev pub issued_by : Act → Option ℕ
issued_by (act.Make p w) = Some w
issued_by (act.Take p old new) = Some new
issued_by (act.Tint p old new) = Some new
issued_by (act.Renew p old new) = Some new
issued_by _ = None

-- a word that is issued was never issued before, and its colour is one of the run's
abbrev pub is_new : Options → Coloured → Option ℕ → Bool
is_new o s None = true
is_new o s (Some w) = nat_lt (colour_of w) o.colours && not (is_issued s w)

-- OBJECTS

-- w is the word of p, and p's pointer wasn't given up
abbrev pub names : Coloured → ObjNo → ℕ → Bool
names s p w = holds (λ x. (x.word == w) && not x.is_condemned) (object_at s p)

abbrev pub is_here : EntryView → Coloured → ObjNo → Bool
is_here e s p = holds (λ x. lies_at e.server x.place) (object_at s p)

-- p lies at some server
abbrev pub lies : Coloured → ObjNo → Bool
lies s p = holds (λ x. is_lying x.place) (object_at s p)

abbrev pub comes_here : EntryView → Coloured → ObjNo → Bool
comes_here e s p = holds (λ x. flies_to e.server x.place) (object_at s p)

-- p lies here, and w is its word, and its pointer was given up
abbrev pub is_left : EntryView → Coloured → ObjNo → ℕ → Bool
is_left e s p w = holds (λ x. (x.word == w) && x.is_condemned && lies_at e.server x.place) (object_at s p)

-- p is live, and its pointer wasn't given up
abbrev pub is_kept : Coloured → ObjNo → Bool
is_kept s p = holds (λ x. not x.is_condemned) (object_at s p)

-- SERVERS, THREADS AND MUTEXES

abbrev pub of_run : Options → ℕ → Bool
of_run o server = nat_lt server o.servers

-- the entry's thread is t
abbrev pub is_by : EntryView → ℕ → Bool
is_by e t = holds (λ u. u == t) e.thread

abbrev pub is_over : Coloured → ℕ → Bool
is_over s t = holds (λ r. r.has_ended) (thread_at s t)

-- the mutex was made, and its content is in
abbrev pub is_in : Coloured → MutexNo → Bool
is_in s m = holds (λ g. is_none g.holder) (mutex_at s m)

-- the content was granted to the entry's thread
abbrev pub is_holder : EntryView → Guarded → Bool
is_holder e g = holds (is_by e) g.holder

abbrev pub is_held : EntryView → Coloured → MutexNo → Bool
is_held e s m = holds (is_holder e) (mutex_at s m)

-- the mutex was made, or the thread was started
abbrev pub is_known : Coloured → Released → Bool
is_known s (released.Mutex m) = is_some (mutex_at s m)
is_known s (released.Task t) = is_some (thread_at s t)

-- where a thread starts: its count from its home on, round the servers
abbrev pub starting_server : Options → ℕ → ℕ
starting_server o t = (home_of t + count_of t) % o.servers

-- THE RULES

abbrev pub rule : Options → EntryView → Coloured → Act → Bool
-- a new object of the entry's thread comes to be here
rule o e s (act.Make p w) = is_none (object_at s p) && is_by e p.thread && (server_of w == e.server)
-- w is p's word, and p lies here
rule o e s (act.Local p w) = names s p w && is_here e s p
-- w is p's word, and it is cached here
rule o e s (act.Hit p w) = names s p w && is_cached s e.server w
-- w is p's word; p isn't here, and w isn't cached here
rule o e s (act.Ask p w) = names s p w && not (is_here e s p) && not (is_cached s e.server w)
-- w is p's word, and p lies here; that server asked for a copy under it
rule o e s (act.Serve p w there) = names s p w && is_here e s p && is_wished s (ForCopy p w there)
-- such a copy was served to here and hasn't come
rule o e s (act.Fill p w) = is_kept s p && is_some (next_served s p w e.server)
-- w is p's word, and p isn't here
rule o e s (act.Pull p w) = names s p w && not (is_here e s p)
-- w is p's word, and p lies here; that server asked for it under that word
rule o e s (act.Give p w there) = names s p w && is_here e s p && is_wished s (ForObject p w there)
-- p is on its way to here under the old word; the new word is of this server
rule o e s (act.Take p old new) = names s p old && comes_here e s p && (server_of new == e.server)
-- p lies at some server, as one on its way keeps its word; the new word is p's word with the next colour, so it isn't the last
-- colour that p's word has, as the new one is of the run
rule o e s (act.Tint p old new) = names s p old && lies s p && (new == next_word old)
-- p lies here, and its word has the last colour; the new word is of this server
rule o e s (act.Renew p old new) = names s p old && is_here e s p && (colour_of old + 1 == o.colours) && (server_of new == e.server)
-- w is p's word, and p wasn't condemned before; it may be on its way
rule o e s (act.Condemn p w) = names s p w
-- p lies here and was condemned
rule o e s (act.Free p w) = is_left e s p w
-- w is cached here; that nobody uses the copy is the server's matter
rule o e s (act.Evict w) = is_cached s e.server w
-- a thread asks for a mutex that was made; what it holds is the plain run's matter
rule o e s (act.AskLock m) = is_some e.thread && is_some (mutex_at s m)
-- here is m's home, and the content is in; that thread at that server asked for it
rule o e s (act.Grant m t there) = (m.home == e.server) && is_in s m && is_wished s (ForContent m t there)
-- the content was granted to the entry's thread
rule o e s (act.GiveBack m) = is_held e s m
-- a thread asks for a share of a mutex that was made
rule o e s (act.AskDup m) = is_some e.thread && is_some (mutex_at s m)
-- here is m's home; that thread at that server asked for a share
rule o e s (act.Dupped m t there) = (m.home == e.server) && is_wished s (ForShare m t there)
-- the mutex was made, or the thread was started
rule o e s (act.LetGo x) = is_known s x
-- a thread starts another one, whose name has this server and was never started, at the server that the name tells
rule o e s (act.Start t there) = is_some e.thread && (home_of t == e.server) && is_none (thread_at s t) && (there == starting_server o t)
-- a thread asks for the result of one that was started
rule o e s (act.AskJoin t) = is_some e.thread && is_some (thread_at s t)
-- here is t's home, and t has ended; that thread at that server asked for its result
rule o e s (act.Answer t asker there) = (home_of t == e.server) && is_over s t && is_wished s (ForResult t asker there)
-- the entry's thread isn't main, and it ends once
rule o e s (act.Finish t) = is_by e t && not (t == 0) && not (is_over s t)
-- the entry's thread goes to another server of the run
rule o e s (act.Depart t there) = is_by e t && of_run o there && not (there == e.server)

-- an act is allowed where its rule holds and the word that it issues is new
abbrev pub allows : Options → EntryView → Coloured → Act → Bool
allows o e s a = is_new o s (issued_by a) && rule o e s a
