use Rattle.server_ready.proofs.reading.+read_stars.Given as goal

-- the stars that are left
abbrev pub decreases-read_stars : goal.decreases-read_stars
decreases-read_stars l = l.depth
