use Rattle.std.proofs.Common.{refl}
use Rattle.coherent_samples.proofs.laws.breaks_compute.Goals as goal

pub returns-clause-memory : goal.returns-clause-memory
returns-clause-memory c = record { two_homes = refl; two_owners = refl; no_owner = refl; no_object = refl; not_issued = refl; no_colour = refl; two_words = refl; elsewhere = refl; live_and_free = refl; free_beyond = refl; other_first = refl; dirty_shared = refl; dirty_below = refl; first_word_again = refl; dirty_beside = refl; old_copy = refl; unclean_fetch = refl }

pub returns-clause-walks : goal.returns-clause-walks
returns-clause-walks c = record { passed_away = refl; passed_copied = refl; passed_stale = refl; passed_stale_box = refl; passed_ready = refl; passed_reading = refl; ready_walk = refl; join_walk = refl; busy_parcel = refl; not_followed = refl; followed_by_old_copy = refl; needless = refl; asks_here = refl; no_user = refl; evicted = refl }

pub returns-clause-requests : goal.returns-clause-requests
returns-clause-requests c = record { unanswered = refl; unasked = refl; other_object = refl; misrouted = refl; astray = refl; asker_away = refl; asked_under_way = refl; dropped_under_way = refl; no_lock = refl; no_par_end = refl; no_pair = refl; answered_by_pair = refl; both_over = refl; pulls_to_read = refl; pulls_early = refl; taken_elsewhere = refl; taken_old = refl; ready_gift = refl; other_gift = refl }

pub returns-clause-sharing : goal.returns-clause-sharing
returns-clause-sharing c = record { no_mutex = refl; mutex_away = refl; two_contents = refl; mark_on_top = refl; share_lost = refl; queued_inside = refl; content_kept = refl; other_home = refl; main_noted = refl; result_away = refl; branch_away = refl; early_result = refl; two_tasks = refl; not_owed = refl; two_results = refl; early_pair = refl; early_join = refl; kept_of_nobody = refl; finished_of_nobody = refl; main_in_pair = refl; named_branch = refl; nobody = refl }

pub returns-clause-rooted : goal.returns-clause-rooted
returns-clause-rooted c = record { over_with_slot = refl; in_a_circle = refl; own_parent = refl; branch_number = refl }

pub returns-clause-names : goal.returns-clause-names
returns-clause-names c = record { twice = refl; not_made = refl; not_started = refl; copied_name = refl; zeroth_thread = refl; zeroth_mutex = refl; many = refl; no_event = refl; cached_twice = refl; no_turns = refl; nine_stars = refl }
