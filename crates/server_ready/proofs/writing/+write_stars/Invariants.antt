use Rattle.server_ready.proofs.writing.+write_stars.Given as goal

-- the stars that are left
abbrev pub decreases-write_stars : goal.decreases-write_stars
decreases-write_stars l = l.depth
