pub mod PgmFrame
