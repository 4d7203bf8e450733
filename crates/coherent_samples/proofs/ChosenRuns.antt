-- Runs under chosen events, one by one.
use Rattle.std.proofs.Common.{refl}
use Rattle.server_model.specs.Programs.{with_servers, lent_box, locked_elsewhere, often_written, read_by_pairs, read_elsewhere, read_two, written_elsewhere}
use Rattle.coherent_samples.specs.Chosen.{Stays, ChosenStayCoherent}
use Rattle.sample_clusters.specs.ChosenPrograms.{lent_deep, locked_by_two, locked_in_box, viewed_twice}

reads_1 : Stays read_elsewhere (with_servers 2 65536) 70 1
reads_1 = refl

writes_1 : Stays written_elsewhere (with_servers 2 2) 80 2
writes_1 = refl

writes_2 : Stays written_elsewhere (with_servers 3 2) 80 3
writes_2 = refl

pairs_1 : Stays read_by_pairs (with_servers 3 2) 90 4
pairs_1 = refl

pairs_2 : Stays read_by_pairs (with_servers 2 65536) 90 5
pairs_2 = refl

often_1 : Stays often_written (with_servers 2 2) 60 6
often_1 = refl

lends_1 : Stays lent_box (with_servers 2 65536) 80 7
lends_1 = refl

lends_2 : Stays lent_box (with_servers 2 2) 80 8
lends_2 = refl

lends_3 : Stays lent_box (with_servers 3 1) 80 9
lends_3 = refl

two_1 : Stays read_two (with_servers 2 2) 80 10
two_1 = refl

locks_1 : Stays locked_elsewhere (with_servers 2 2) 80 11
locks_1 = refl

locks_2 : Stays locked_elsewhere (with_servers 3 65536) 80 12
locks_2 = refl

deep_1 : Stays lent_deep (with_servers 2 2) 100 21
deep_1 = refl

deep_2 : Stays lent_deep (with_servers 3 1) 100 22
deep_2 = refl

deep_3 : Stays lent_deep (with_servers 3 65536) 100 23
deep_3 = refl

shared_1 : Stays locked_by_two (with_servers 2 2) 100 31
shared_1 = refl

shared_2 : Stays locked_by_two (with_servers 3 1) 100 32
shared_2 = refl

viewed_1 : Stays viewed_twice (with_servers 3 65536) 100 41
viewed_1 = refl

viewed_2 : Stays viewed_twice (with_servers 2 1) 100 42
viewed_2 = refl

boxed_1 : Stays locked_in_box (with_servers 2 2) 100 51
boxed_1 = refl

boxed_2 : Stays locked_in_box (with_servers 3 1) 100 52
boxed_2 = refl

pub chosen_stay : ChosenStayCoherent
chosen_stay = record { reads_1 = reads_1; writes_1 = writes_1; writes_2 = writes_2; pairs_1 = pairs_1; pairs_2 = pairs_2; often_1 = often_1; lends_1 = lends_1; lends_2 = lends_2; lends_3 = lends_3; two_1 = two_1; locks_1 = locks_1; locks_2 = locks_2; deep_1 = deep_1; deep_2 = deep_2; deep_3 = deep_3; shared_1 = shared_1; shared_2 = shared_2; viewed_1 = viewed_1; viewed_2 = viewed_2; boxed_1 = boxed_1; boxed_2 = boxed_2 }
