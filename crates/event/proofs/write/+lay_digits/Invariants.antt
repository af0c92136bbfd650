use Rattle.event.proofs.write.+lay_digits.Given as goal

-- a hundredth is less
abbrev pub decreases-lay_digits : goal.decreases-lay_digits
decreases-lay_digits l = l.n
