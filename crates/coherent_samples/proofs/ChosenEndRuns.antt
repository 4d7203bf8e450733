-- Where runs under chosen events lead, one by one.
use Rattle.std.proofs.Common.{refl}
use Rattle.server_model.specs.Programs.{with_servers, written_elsewhere, read_by_pairs}
use Rattle.sample_clusters.specs.ChosenPrograms.{lent_deep, locked_by_two, viewed_twice, locked_in_box}
use Rattle.coherent_samples.specs.ChosenEnds.{Leaves, FollowsTo, ChosenEnd}

deep_30 : Leaves lent_deep (with_servers 2 2) 30 21
deep_30 = record { legal = refl; same = refl }

deep_60 : Leaves lent_deep (with_servers 2 2) 60 21
deep_60 = record { legal = refl; same = refl }

deep_90 : Leaves lent_deep (with_servers 2 2) 90 22
deep_90 = record { legal = refl; same = refl }

shared_30 : Leaves locked_by_two (with_servers 2 2) 30 31
shared_30 = record { legal = refl; same = refl }

shared_60 : Leaves locked_by_two (with_servers 3 1) 60 32
shared_60 = record { legal = refl; same = refl }

shared_90 : Leaves locked_by_two (with_servers 2 2) 90 33
shared_90 = record { legal = refl; same = refl }

pairs_45 : Leaves read_by_pairs (with_servers 3 2) 45 41
pairs_45 = record { legal = refl; same = refl }

pairs_80 : Leaves read_by_pairs (with_servers 2 2) 80 42
pairs_80 = record { legal = refl; same = refl }

viewed_60 : Leaves viewed_twice (with_servers 2 2) 60 43
viewed_60 = record { legal = refl; same = refl }

boxed_50 : Leaves locked_in_box (with_servers 2 1) 50 53
boxed_50 = record { legal = refl; same = refl }

plain_deep_20 : FollowsTo lent_deep (with_servers 2 2) 20 51
plain_deep_20 = record { there = refl; state = refl; labels = refl }

plain_deep_40 : FollowsTo lent_deep (with_servers 2 2) 40 51
plain_deep_40 = record { there = refl; state = refl; labels = refl }

plain_deep_60 : FollowsTo lent_deep (with_servers 2 2) 60 52
plain_deep_60 = record { there = refl; state = refl; labels = refl }

plain_deep_80 : FollowsTo lent_deep (with_servers 3 2) 80 53
plain_deep_80 = record { there = refl; state = refl; labels = refl }

plain_deep_100 : FollowsTo lent_deep (with_servers 3 1) 100 54
plain_deep_100 = record { there = refl; state = refl; labels = refl }

plain_deep_120 : FollowsTo lent_deep (with_servers 2 1) 120 55
plain_deep_120 = record { there = refl; state = refl; labels = refl }

plain_written_30 : FollowsTo written_elsewhere (with_servers 2 2) 30 61
plain_written_30 = record { there = refl; state = refl; labels = refl }

plain_written_60 : FollowsTo written_elsewhere (with_servers 3 2) 60 62
plain_written_60 = record { there = refl; state = refl; labels = refl }

pub chosen_end : ChosenEnd
chosen_end = record { deep_30 = deep_30; deep_60 = deep_60; deep_90 = deep_90; shared_30 = shared_30; shared_60 = shared_60; shared_90 = shared_90; pairs_45 = pairs_45; pairs_80 = pairs_80; viewed_60 = viewed_60; boxed_50 = boxed_50; plain_deep_20 = plain_deep_20; plain_deep_40 = plain_deep_40; plain_deep_60 = plain_deep_60; plain_deep_80 = plain_deep_80; plain_deep_100 = plain_deep_100; plain_deep_120 = plain_deep_120; plain_written_30 = plain_written_30; plain_written_60 = plain_written_60 }
