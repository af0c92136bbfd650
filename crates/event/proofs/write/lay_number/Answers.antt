use Rattle.std.proofs.Common.{◌≡◌, ◌+◌, [], ◌∷◌, length, decimal, sym, ap, arith}
use Rattle.std.proofs.lemmas.Fmt.{decimal_digit}
use Rattle.event.proofs.Laying.{laid_as}
use Rattle.event.proofs.write.lay_number.Goals as goal

pub lay_byte-requires : goal.lay_byte-requires
lay_byte-requires c = omega (arith, ap length (decimal_digit c.args.n c.if-n-lt10.true))

pub returns-then-n-lt10 : goal.returns-then-n-lt10
returns-then-n-lt10 c =
    laid_as c.args.out.now c.args.at ((48 + c.args.n) ∷ []) (decimal c.args.n) c.lay_byte.result c.lay_byte.new.out (sym (decimal_digit c.args.n c.if-n-lt10.true)) c.lay_byte.ensures
