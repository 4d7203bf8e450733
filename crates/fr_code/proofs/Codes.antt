-- The codes of some small programs stand for them, by computing.
use Rattle.std.proofs.Common.{refl}
use Rattle.fr_code.specs.Examples.{taking, copying, CodesCompute}

pub codes_compute_lem : CodesCompute
codes_compute_lem = record {
  boxed = record {
    to = 6;
    at = (5, (2, 2, (1, (0, refl, refl, refl), refl, refl), refl, (3, 3, (2, refl, refl, refl), refl, (4, (refl, refl), refl, refl), tt), (tt, tt)), (refl, refl));
    over = refl;
    source = (tt, (tt, tt));
  };
  inner = record {
    to = 8;
    at = (7, (1, 1, (0, refl, refl, refl), refl, (4, 5, (3, (2, 2, (1, refl, refl, refl), refl, (refl, refl), tt), (refl, refl)), (refl, refl), (6, (refl, refl), refl, refl), tt), ((tt, tt), tt)), (refl, refl));
    over = refl;
    source = (tt, ((tt, tt), tt));
  };
  twice = record {
    to = 7;
    at = (6, (1, 1, (0, refl, refl, refl), refl, (5, (2, 4, (refl, refl), (3, 3, (refl, refl), refl, refl, refl, tt), refl, refl, (tt, tt)), refl, refl), (tt, (tt, tt))), (refl, refl));
    over = refl;
    source = (tt, (tt, (tt, tt)));
  };
  started = record {
    to = 9;
    at = (7, (2, 2, (1, (0, refl, refl, refl), refl, refl), refl, (4, 4, (3, (_, 10, 12, refl, refl, refl, (11, (11, (refl, refl), refl), (refl, refl)), refl, tt), refl, refl), refl, (6, (5, (refl, refl), refl, refl), refl, refl), tt), (tt, tt)), (refl, (refl, refl)));
    over = refl;
    source = (tt, (tt, tt));
  };
  constant_inside = record {
    to = 9;
    at = (7, (2, 2, (1, (0, refl, refl, refl), refl, refl), refl, (5, 5, (4, (3, refl, (3, refl, refl), (refl, refl), tt), refl, refl), refl, (6, (refl, refl), refl, refl), tt), (tt, tt)), (refl, (refl, refl)));
    over = refl;
    source = (tt, (tt, tt));
  };
  exchanged = record {
    to = 16;
    at = (14, (3, 3, (2, (1, (0, refl, refl, refl), refl, refl), refl, refl), refl, (12, 12, (11, (10, refl, (9, (6, 6, (5, (refl, refl), refl, refl), refl, (8, 8, (7, (6, refl, refl, refl), refl, refl), refl, (refl, refl), tt), (tt, tt)), (refl, refl)), (refl, refl), (tt, (tt, tt))), refl, refl), refl, (13, (refl, refl), refl, refl), tt), ((tt, (tt, tt)), tt)), (refl, (refl, refl)));
    over = refl;
    source = (tt, ((tt, (tt, tt)), tt));
  };
  counted = record {
    to = 16;
    at = (13, (2, 2, (1, (0, refl, refl, refl), refl, refl), refl, (4, 4, (3, (refl, refl), refl, refl), refl, (6, 6, (5, (_, 17, 23, refl, refl, refl, (22, (22, (21, refl, (21, (20, (19, 19, (refl, refl), refl, refl, refl, tt), refl, refl), refl), (refl, refl), (tt, tt)), refl), (refl, refl)), refl, (tt, tt)), refl, refl), refl, (8, 9, (7, (refl, refl), refl, refl), (refl, refl), (12, refl, (12, (11, (refl, refl), refl, refl), refl), (refl, refl), tt), tt), (tt, tt)), ((tt, tt), (tt, tt))), (tt, ((tt, tt), (tt, tt)))), (refl, (refl, (refl, refl))));
    over = refl;
    source = (tt, (tt, ((tt, tt), (tt, tt))));
  };
  handed_over = record {
    to = 8;
    at = (6, (2, 2, (1, (0, refl, refl, refl), refl, refl), refl, (4, 4, (3, (2, refl, refl, refl), refl, refl), refl, (9, 12, 13, 17, record { ours = taking 0; theirs = taking 1; starts = refl; captures = refl; others = refl; waits = refl; next = refl }, (11, (11, (10, (refl, refl), refl, refl), refl), (refl, refl)), refl, tt, (16, (16, (14, 14, (13, refl, refl, refl), refl, (15, (refl, refl), refl, refl), tt), refl), (refl, refl)), refl, (tt, tt)), (tt, (tt, tt))), (tt, (tt, (tt, tt)))), (refl, (refl, refl)));
    over = refl;
    source = (tt, (tt, (tt, (tt, tt))));
  };
  twice_shared = record {
    to = 14;
    at = (13, (2, 2, (1, (0, refl, refl, refl), refl, refl), refl, (7, 7, (6, (4, 4, (3, (refl, refl), refl, refl), refl, (15, 18, 19, 22, record { ours = copying 1; theirs = copying 1; starts = refl; captures = refl; others = refl; waits = refl; next = refl }, (17, (17, (16, (refl, refl), refl, refl), refl), (refl, refl)), refl, tt, (21, (21, (20, (refl, refl), refl, refl), refl), (refl, refl)), refl, tt), (tt, tt)), (refl, refl)), refl, (8, 8, (7, refl, refl, refl), refl, (12, (10, 10, (9, (refl, refl), refl, refl), refl, (23, 26, 27, 30, record { ours = copying 1; theirs = copying 1; starts = refl; captures = refl; others = refl; waits = refl; next = refl }, (25, (25, (24, (refl, refl), refl, refl), refl), (refl, refl)), refl, tt, (29, (29, (28, (refl, refl), refl, refl), refl), (refl, refl)), refl, tt), (tt, tt)), (refl, refl)), (tt, (tt, tt))), (tt, (tt, (tt, tt)))), ((tt, (tt, tt)), (tt, (tt, (tt, tt))))), (refl, refl));
    over = refl;
    source = (tt, ((tt, (tt, tt)), (tt, (tt, (tt, tt)))));
  };
}
