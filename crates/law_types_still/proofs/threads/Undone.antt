-- Event by event: whatever does no plain step leaves what types say of threads.
use Rattle.std.proofs.Common.{◌≡◌, ℕ, ◌+◌, Bool, true, false, not, length, Option, Some, None, refl, sym, ap, ap₂, ◌∙◌, arith}
use Rattle.std.specs.Prelude.{is_some}
use Rattle.law_heap_still.specs.Below.fr_base.declared.name.ObjNo.{ObjNo}
use Rattle.law_heap_still.specs.Below.fr_base.declared.place.Lval.{Lval}
use Rattle.law_heap_still.specs.Below.journal.View.{EntryView}
use Rattle.law_heap_still.specs.Below.thread_state.View.{is_over}
use Rattle.law_heap_still.specs.Below.server_model.declared.event.Event.{Event}
use Rattle.law_heap_still.specs.Below.server_model.Servers.{Cluster}
use Rattle.law_heap_still.specs.Below.server_model.Clusters.{apply}
use Rattle.law_heap_still.specs.Below.coherent_memory.Names.{tot, one, other, if_so, Among}
use Rattle.law_heap_still.specs.Below.coherent_memory.Things.{Location, at_slot, at_temp, in_cell, things_of}
use Rattle.law_heap_still.specs.Below.coherent_memory.Follow.{Standing, Ground, threads_in, locate}
use Rattle.law_heap_still.specs.Below.coherent_memory.Sight.{sight}
use Rattle.law_heap_still.specs.Below.coherent_memory.Rooted.{is_end, dressed}
use Rattle.law_heap_still.specs.Below.coherent_memory.Walking.{instr_of}
use Rattle.law_heap_still.specs.Below.coherent_types.Names.{names_of}
use Rattle.law_heap_still.specs.Below.coherent_types.ClusterTypes.{Types, IsCoherent, leads_wrong, astray_of}
use Rattle.law_heap_still.specs.Below.law_words_paths.paths.HeapStore.{GoesOn, HasPaths}
use Rattle.law_heap_still.proofs.Below.law_words_paths.paths.Alike.{coherent_has_paths}
use Rattle.law_heap_still.proofs.Below.law_words_paths.paths.Forms.{none_of}
use Rattle.law_heap_still.specs.Below.law_counts_sums.Laws.{Gives, FewEvents, OneResult}
use Rattle.law_heap_still.proofs.Below.law_counts_sums.Results.{both_give}
use Rattle.law_heap_still.proofs.Below.law_counts_sums.TurnEvents.{asking_applied, result_once}
use Rattle.law_heap_still.proofs.events.Once.{shown_once}
use Rattle.law_heap_still.proofs.events.Drops.{named}
use Rattle.law_heap_still.proofs.events.Sites.{leads_by}
use Rattle.law_heap_still.proofs.events.Counting.{no_stray}
use Rattle.law_heap_still.proofs.events.Alike.{SeenAt, HeedAlike, Heeds, place_same, mutex_same}
use Rattle.law_heap_still.proofs.undone.Undone.{event_goes}
use Rattle.law_heap_still.proofs.undone.Locks.{locks_see, places_see}
use Rattle.law_types_still.specs.threads.Threads.{TypesThreads, UndoneKeepsThreadTypes}
use Rattle.law_types_still.proofs.threads.Twins.{same_sum, same_forms, same_locked, same_ends}
use Rattle.law_types_still.proofs.threads.Leading.{LeadsAlike, astray_sees, astray_alike, none_astray}
use Rattle.law_types_still.proofs.threads.Viewing.{all_none, views_on}

-- a thread that is over has no values
bare_slots : (k : Cluster) (x : Standing) → dressed (sight k) x ≡ 0 → is_over x.thread.phase ≡ true → (length x.thread.slots ≡ 0) × (length x.thread.temps ≡ 0)
bare_slots k x none over =
    let all : other (is_end (instr_of (sight k) x)) + length x.thread.slots + length x.thread.temps + one (is_some x.thread.gift) ≡ 0 =
    sym (ap (λ b. if_so b (other (is_end (instr_of (sight k) x)) + length x.thread.slots + length x.thread.temps + one (is_some x.thread.gift))) over) ∙ none in
    (omega (arith, all), omega (arith, all))

module _ (k : Cluster) (co : IsCoherent k) (z : Cluster) (code : z.code ≡ k.code) (alike : HeedAlike (named k) (sight k) (things_of k) (things_of z)) (once : OneResult z) where
  abbrev paths : HasPaths k
  paths = coherent_has_paths k co

  -- places of a thread that goes on lead alike
  leads_alike : (x : Standing) → GoesOn k x → LeadsAlike (sight z).ground (sight k).ground x.thread.number
  leads_alike x goes =
      let t = x.thread.number in
      let shown = shown_once k co.sound in
      let see = locks_see k paths in
      let kept = no_stray k shown.threads in record {
        place = λ w. sym (place_same k z (things_of k) (things_of z) code shown (named k) (λ o h. h) see alike kept (no_stray z) t w.slot w.depth (λ m l. places_see k paths x goes w.slot m));
        mutex = λ w. sym (mutex_same k z (things_of k) (things_of z) code shown (named k) (λ o h. h) see alike kept (no_stray z) t w (λ n l. places_see k paths x goes w.slot n));
      }

  -- so do its references
  lead_on : (x : Standing) → Among x (sight k).ground.threads → astray_of co.types.typing.exact (sight k).ground x.thread ≡ 0 → astray_of co.types.typing.exact (sight z).ground x.thread ≡ 0
  lead_on x a none = by (is_over x.thread.phase) refl
    where
      by : (q : Bool) → is_over x.thread.phase ≡ q → astray_of co.types.typing.exact (sight z).ground x.thread ≡ 0
      by false e = astray_alike co.types.typing.exact (sight z).ground (sight k).ground x.thread (leads_alike x (record { among = a; going = e })) ∙ none
      by true e =
          let empty = bare_slots k x (none_of (dressed (sight k)) x (sight k).ground.threads paths.over_are_bare a) e in
          none_astray co.types.typing.exact (sight z).ground x.thread empty.0 empty.1

  types_threads : TypesThreads k co.types z
  types_threads =
      let c = co.types in
      let names = names_of c.object c.typing.gives in
      let exact = c.typing.exact in record {
        forms = same_forms k z (named k) alike c.table names ∙ c.forms;
        locked = same_locked k z (named k) alike c.table names ∙ c.locked;
        lead =
            same_sum k z (named k) alike (λ x. astray_of exact (sight z).ground x.thread) (astray_sees exact (sight z).ground)
            ∙ all_none (λ x. astray_of exact (sight k).ground x.thread) (λ x. astray_of exact (sight z).ground x.thread) (threads_in (things_of k)) lead_on c.lead;
        views = views_on k z (named k) alike once co.sound.names.numbers_differ c.table c.views;
        ends = same_ends k z (named k) alike c.table names ∙ c.ends;
      }

pub undone_keep : UndoneKeepsThreadTypes
undone_keep k e co few =
    let sound = co.sound in
    both_give (λ (d : Cluster × EntryView). OneResult d.0) (λ (d : Cluster × EntryView). d.1.done ≡ None → OneResult d.0 → TypesThreads k co.types d.0) (λ (d : Cluster × EntryView). d.1.done ≡ None → TypesThreads k co.types d.0) (apply k e)
    (asking_applied OneResult result_once k e sound few)
    (leads_by (λ (r : EntryView). r.done ≡ None) (λ w. Heeds (named k) (sight k) w) (λ z. OneResult z → TypesThreads k co.types z) k e sound few
    (λ z code alike once. types_threads k co z code alike once)
    (λ s here on. event_goes k sound e.server s here e.what on))
    (λ d once leads none. leads none once)
