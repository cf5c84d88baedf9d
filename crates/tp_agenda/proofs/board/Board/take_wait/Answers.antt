-- One wait more is held by the board.
use Rattle.std.proofs.Common.{◌≡◌, Bool, false, List, [], ◌∷◌, ◌++◌, length, length-append, sym, subst, ap, arith, rules}
use Rattle.tp_step.specs.declared.tally.Wait.{Wait}
use Rattle.tp_agenda.specs.Index.{IsFiled}
use Rattle.tp_agenda.proofs.board.Board.take_wait.Goals as goal

pub returns-clause-fits : goal.returns-clause-fits
returns-clause-fits c =
    let old = c.args.self.now in
    let ws = c.args.waits.now.items.items in
    let over = c.push.new.self.items in
    let more : over ≡ old.over.items ++ false ∷ [] = c.in_ok-push.ensures.items in
    let recorded : c.push-2.new.self.items ≡ ws ++ c.args.wait ∷ [] = c.in_ok-push-2.ensures.items in
    let longer = length-append old.over.items (false ∷ []) in
    let waits_longer = length-append ws (c.args.wait ∷ []) in
    let over_length = ap (λ (xs : List Bool). length xs) more in
    let waits_length = ap (λ (xs : List Wait). length xs) recorded in
    let same = c.requires.fits.sizes in
    let place : length ws ≡ c.len.result = search rules in
    record {
      bound = c.requires.fits.bound;
      small = c.requires.fits.small;
      sizes = omega (arith, longer, waits_longer, over_length, waits_length, same);
      filed =
          subst (λ (xs : List Wait). IsFiled c.file.new.index xs over) (sym recorded)
          (subst (λ (bs : List Bool). IsFiled c.file.new.index (ws ++ c.args.wait ∷ []) bs) (sym more)
          (c.in_ok-file.ensures.filed ws old.over.items place c.requires.fits.filed));
    }
