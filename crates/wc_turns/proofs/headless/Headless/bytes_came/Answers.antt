use Rattle.std.proofs.Common.{refl, ap}
use Rattle.wc_turns.specs.declared.links.LinkState.{LinkState}
use Rattle.wc_turns.proofs.TakesLemmas.{standing-at, read-stands}
use Rattle.wc_turns.proofs.ReadTakes.{TakesRead-serves, read-causes}
use Rattle.wc_turns.proofs.headless.Headless.bytes_came.Goals as goal

pub returns-clause-takes : goal.returns-clause-takes
returns-clause-takes c =
    TakesRead-serves c.args.self.now _ c.args.link c.args.place c.index_mut.result.now _ c.args.bytes.now c.requires.place c.index_mut.ensures.value
    (standing-at c.args.self.now.links.opened.items c.args.link.0 c.args.place c.index_mut.result.now c.requires.place c.index_mut.ensures.value c.requires.stands)
    refl refl refl refl refl refl refl refl c.serve_bytes.ensures.serves

pub returns-clause-causes : goal.returns-clause-causes
returns-clause-causes c = read-causes c.args.self.now.links.opened.items c.args.link.0 c.args.place c.index_mut.result.now _ c.args.bytes.now _ _ _ _ c.requires.place c.index_mut.ensures.value c.serve_bytes.ensures.serves

pub returns-clause-stands : goal.returns-clause-stands
returns-clause-stands c =
    let s = c.serve_bytes.ensures.serves in
    read-stands c.args.self.now.links.opened.items c.args.link.0 c.args.place c.index_mut.result.now _ c.requires.place c.index_mut.ensures.value (ap (λ (l : LinkState). l.link) s.state) (ap (λ (l : LinkState). l.connecting) s.state) c.requires.stands
