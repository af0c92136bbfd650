use Rattle.std.proofs.Common.{◌≡◌, ◌+◌, ◌/◌, ◌%◌, ◌<◌, ◌^◌, [], ◌∷◌, ◌++◌, length, decimal, sym, ap, arith, length-append}
use Rattle.std.proofs.lemmas.Fmt.{decimal_digit}
use Rattle.event.proofs.Laying.{laid_as, laid_more, more_digits, two_digits}
use Rattle.event.proofs.write.+lay_digits.Goals as goal

pub lay_byte-requires : goal.lay_byte-requires
lay_byte-requires t c = omega (arith, ap length (decimal_digit c.args.n c.if-n-lt10.true))

pub returns-then-n-lt10 : goal.returns-then-n-lt10
returns-then-n-lt10 t c =
    laid_as c.args.out.now c.args.at ((48 + c.args.n) ∷ []) (decimal c.args.n) c.lay_byte.result c.lay_byte.new.out (sym (decimal_digit c.args.n c.if-n-lt10.true)) c.lay_byte.ensures

pub lay_bytes-requires : goal.lay_bytes-requires
lay_bytes-requires t c = omega (arith, ap length (two_digits c.args.n c.if-n-lt10.false c.if-tenth-lt10.true))

pub returns-then-tenth-lt10 : goal.returns-then-tenth-lt10
returns-then-tenth-lt10 t c =
    laid_as c.args.out.now c.args.at ((48 + c.args.n / 10) ∷ (48 + c.args.n % 10) ∷ []) (decimal c.args.n) c.lay_bytes.result c.lay_bytes.new.out (sym (two_digits c.args.n c.if-n-lt10.false c.if-tenth-lt10.true)) c.lay_bytes.ensures

pub lay_digits-end-requires : goal.lay_digits-end-requires
lay_digits-end-requires t c =
    let s = ap length (more_digits c.args.n (omega arith) c.if-tenth-lt10.false) in
    (omega (arith, c.decreases), omega (arith, s, length-append (decimal (c.args.n / 10 / 10)) ((48 + c.args.n / 10 % 10) ∷ (48 + c.args.n % 10) ∷ [])))

pub lay_bytes-requires-2 : goal.lay_bytes-requires-2
lay_bytes-requires-2 t c =
    let s = ap length (more_digits c.args.n (omega arith) c.if-tenth-lt10.false) in
    omega (arith, s, length-append (decimal (c.args.n / 10 / 10)) ((48 + c.args.n / 10 % 10) ∷ (48 + c.args.n % 10) ∷ []), c.lay_digits-end.ensures.0)

pub returns : goal.returns
returns t c =
    let s = more_digits c.args.n (omega arith) c.if-tenth-lt10.false in
    let ds = decimal (c.args.n / 10 / 10) in
    let last = (48 + c.args.n / 10 % 10) ∷ (48 + c.args.n % 10) ∷ [] in
    laid_as c.args.out.now c.args.at (ds ++ last) (decimal c.args.n) c.lay_bytes-2.result c.lay_bytes-2.new.out (sym s) (laid_more c.args.out.now c.args.at ds c.lay_digits-end.result c.lay_digits-end.new.out last c.lay_bytes-2.result c.lay_bytes-2.new.out (omega (arith, ap length s, length-append ds last)) c.lay_digits-end.ensures c.lay_bytes-2.ensures)
